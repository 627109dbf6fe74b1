-- Case distinctions, laws of runs, bits, written bytes, signed numbers, readings, windows and packed numbers, and that each contract
-- determines its answer.
pub mod Cases
pub mod Runs
pub mod Bits
pub mod Pasted
pub mod Signed
pub mod Reading
pub mod Window
pub mod Number
pub mod Fewest
pub mod Reasons
pub mod Answers
pub mod Determined
