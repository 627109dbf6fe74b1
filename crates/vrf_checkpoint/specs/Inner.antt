-- Contracts of the functions that read a block: its GUIDs and the whole block.
pub mod Guids
pub mod Block
