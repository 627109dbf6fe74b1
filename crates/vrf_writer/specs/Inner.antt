-- Contracts of the functions that write the parts of a block, measure them, and search for a path that is a key of an earlier group.
pub mod Prefix
pub mod Rows
pub mod Groups
pub mod Numbers
pub mod Size
pub mod Clash
