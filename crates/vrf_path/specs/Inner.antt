-- Definitions for contracts of functions that are not exported, and of the book's crates.
pub mod Leaf
pub mod Text
