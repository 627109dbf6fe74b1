-- Laws for the proofs: counts and allowances, texts, then one file for each book call and the resolutions.
pub mod Taken
pub mod Passed
pub mod Keeping
pub mod Numbers
pub mod Texts
pub mod Clear
pub mod Guids
pub mod Groups
pub mod Fields
pub mod Resolve
