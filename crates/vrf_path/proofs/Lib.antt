-- Lemmas that the proofs use, by subject.
pub mod Texts
pub mod Keys
pub mod StemSteps
-- what is proved about these definitions
pub mod Laws
-- their examples, computed
pub mod Examples
