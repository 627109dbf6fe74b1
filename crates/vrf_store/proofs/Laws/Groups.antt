-- Laws about groups: the three indexes, adding, growing, merging and replacing a group.
pub mod TextIndex
pub mod Joining
pub mod Index
pub mod Links
pub mod Buckets
pub mod Memory
pub mod Changes
pub mod Merged
pub mod Rebuild
pub mod Replaced
