-- Lemmas that the proofs use, by subject.
pub mod Names
-- what is proved about these definitions
pub mod Laws
-- their examples, computed
pub mod Examples
