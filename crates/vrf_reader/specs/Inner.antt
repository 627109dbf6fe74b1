-- Contracts of the readers of runs, objects, texts and names: the code refines the readers of `vrf_model`.
pub mod Simulates
pub mod Texts
pub mod Fields
pub mod Objects
pub mod Within
pub mod Runs
