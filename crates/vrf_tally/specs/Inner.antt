-- The counts that the private functions print.
pub mod Counts
