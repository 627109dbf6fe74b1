-- The steps in which the code makes the check. The check itself is defined in `vrf_store`.
-- contracts of the steps
pub mod Inner
