-- Laws about the parts of a block, written one after another, about their lengths, and about the search for the first clash.
pub mod Prefix
pub mod Numbers
pub mod Each
pub mod Rows
pub mod Guids
pub mod Groups
pub mod Block
pub mod Lengths
pub mod Size
pub mod Clash
pub mod Writes
