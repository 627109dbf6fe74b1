-- The writer of checkpoint blocks, for a well-formed memory. `Writes` holds the contract of the whole writer. The block itself is defined
-- in `vrf_model` (`Writer`).
pub mod Writes
-- contracts of the functions that write, measure and search
pub mod Inner
