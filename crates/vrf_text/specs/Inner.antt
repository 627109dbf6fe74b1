-- Contracts of the functions that pass over, measure, test and copy a text.
pub mod Steps
pub mod Spans
