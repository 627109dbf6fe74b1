-- Contracts of the functions of `vrf_store`: what well-formed memory is, and what each function requires, answers and changes.
pub mod Valid
pub mod WellFormed
pub mod Indexes
pub mod Lookups
pub mod Memory
pub mod Stepped
pub mod Fields
pub mod Opening
pub mod Counters
pub mod Literals
pub mod Groups
pub mod Texts
pub mod Guids
