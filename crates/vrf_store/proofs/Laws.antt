-- Laws about lent memory, by subject: its parts and the check first, then lookups, then each change.
pub mod Memory
pub mod Check
pub mod Lookups
pub mod Fields
pub mod Opening
pub mod Counters
pub mod Literals
pub mod Groups
pub mod Texts
pub mod Guids
