-- A written block is read back: its GUIDs, slots, groups, the whole block. A block that the writer refuses with 44 is refused with 34.
pub mod Guids
pub mod Slots
pub mod Groups
pub mod Block
pub mod Clash
pub mod Bytes
