-- Laws for the proofs about a block: how a function ends, the GUIDs, the groups, and the whole of a block.
pub mod Ends
pub mod Guids
pub mod Sums
pub mod Groups
pub mod Block
