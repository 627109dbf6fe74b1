-- Contracts of the private functions of `src/reading.rt`.
pub mod Reading
