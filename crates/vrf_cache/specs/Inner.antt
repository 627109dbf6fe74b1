-- Contracts of the book calls on a well-formed memory, and of the functions that they call.
pub mod Taken
pub mod Passed
pub mod Texts
pub mod Guids
pub mod Slots
pub mod Fields
pub mod Groups
pub mod Resolve
