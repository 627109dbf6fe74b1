-- Written blocks in a buffer of n bytes (`src/blocks.rt`): a block is not longer than the buffer, nor than a window may be.
use Rattle.std.specs.Prelude.{ℕ, ◌≤◌}

abbrev pub KeptIn : ℕ → ℕ → Type 0
KeptIn n size = (size ≤ n) × (size ≤ 268435456)
