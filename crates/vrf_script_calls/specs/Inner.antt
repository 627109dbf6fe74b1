-- Bounds that the player keeps: its books in the memory, and written blocks in the scratch buffer.
pub mod Areas
pub mod Blocks
