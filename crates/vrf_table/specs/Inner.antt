-- Names used in the contracts of `vrf_table`, and the properties that make an index correct.
pub mod Index
pub mod Table
pub mod TextIndex
pub mod Answers
pub mod Found
pub mod Spelled
