-- What the proofs of these contracts use.
pub mod Laws
