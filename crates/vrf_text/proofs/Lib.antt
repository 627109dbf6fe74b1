-- Lemmas that the proofs use, by subject.
pub mod Runs
pub mod Chars
pub mod Ascii
pub mod Walks
pub mod Chars16
pub mod CharWrites
pub mod Decoding
pub mod Texts
pub mod Words
-- what is proved about these definitions
pub mod Laws
-- their examples, computed
pub mod Examples
