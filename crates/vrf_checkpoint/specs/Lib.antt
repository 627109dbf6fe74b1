-- What the contracts of `vrf_checkpoint` are stated with. The block reader itself is defined in `vrf_model` (Block.antt).
pub mod Inner
