-- A text in the answers, and the texts of why a run ends.
pub mod Written
pub mod Stops
