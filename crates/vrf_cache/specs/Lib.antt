-- What the contracts of `vrf_cache` are stated with. The book calls themselves are defined in `vrf_model`.
pub mod Inner
