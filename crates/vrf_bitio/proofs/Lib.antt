-- Lemmas that the proofs use, by subject.
pub mod Words
pub mod Readers
pub mod Packed
pub mod Copies
-- what is proved about these definitions
pub mod Laws
-- document 01's examples P1 to P4, computed
pub mod Examples
