-- Contracts of the functions of `vrf_check`.
pub mod Steps
