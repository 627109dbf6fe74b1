-- The calls of a script promise only that they stay inside the slices that they are lent. `Inner` holds the definitions for these contracts.
pub mod Inner
