-- What the contracts of `vrf_reader` are stated with. The readers themselves are defined in `vrf_model`.
pub mod Inner
