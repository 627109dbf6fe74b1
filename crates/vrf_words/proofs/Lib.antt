-- Laws used only by the proofs of this crate: a part of a slice that is read or written, and a text that is copied in pieces.
pub mod Writes
pub mod Copies
-- laws about words and parts
pub mod Laws
