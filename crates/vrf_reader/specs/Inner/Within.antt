-- Readers of one window, and what the readers of `guids` require: a window within the slice, so that a payload's window is too.
use Rattle.std.specs.Prelude.{◌≡◌, ◌+◌, ◌*◌, ◌≤◌, length}
use Rattle.vrf_bitio.specs.declared.BitReader.{BitReader}

-- d is a reader of the same window as r
pub record SameWindow (r d : BitReader) : Type 0 where
  pub same : d.«data» ≡ r.«data»
  pub first : d.first ≡ r.first
  pub count : d.count ≡ r.count

pub record ReaderWithin (r : BitReader) : Type 0 where
  pub inside : r.first + r.count ≤ 8 * length r.«data».now
  pub small : length r.«data».now ≤ 268435456
