-- Laws about the bytes of a lent memory: its parts after a write, its header, its tables and its indexes.
pub mod UpTo
pub mod Check
pub mod WellFormed
pub mod Regions
pub mod Header
pub mod Written
pub mod HeaderWords
pub mod Rows
pub mod Tables
pub mod Entries
