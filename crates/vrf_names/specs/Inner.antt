-- Contracts of the functions that are not exported.
pub mod Suffix
