-- Laws for the proofs: how readings and steps refine a reader in sequence, then one file for each kind of reader.
pub mod Simulates
pub mod Chained
pub mod Texts
pub mod Times
pub mod Fields
pub mod Objects
pub mod Within
pub mod Guids
