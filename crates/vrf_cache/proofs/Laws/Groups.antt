-- Laws for `add_export_group`: one slot or one group replaced, the steps of an adding, and its cases.
pub mod Slots
pub mod Held
pub mod Steps
pub mod Replaced
pub mod Added
