-- How the exported functions satisfy their contracts, and the proofs of demands 1 and 3 from these contracts. `Determined` proves that a
-- contract fixes all that a caller sees.
pub mod Checked
pub mod Reading
pub mod Counters
pub mod Open
pub mod Write
pub mod Demand1
pub mod Demand3
pub mod OneBlock
pub mod Opens
pub mod Determined
