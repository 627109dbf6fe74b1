-- Laws used only by the proofs of this crate, by subject.
pub mod Hashes
pub mod Texts
pub mod Walks
-- laws about these definitions
pub mod Laws
