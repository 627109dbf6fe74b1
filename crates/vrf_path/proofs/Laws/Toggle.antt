-- The `_ClassNetCache` toggle by the cases that `toggle_class_net_cache` tests.
use Rattle.std.specs.Prelude.{◌≡◌, true, false, List, ◌++◌, ℕ, ◌-◌, ◌<◌, ◌≤◌, length, take}
use Rattle.std.proofs.Math.Option.{none, some}
use Rattle.std.proofs.Common.{arith}
use Rattle.std.proofs.Math.ListN.{length-take}
use Rattle.vrf_path.specs.Text.{ends_with}
use Rattle.vrf_path.specs.Toggle.{class_net_cache, toggle}
use Rattle.vrf_path.proofs.Laws.Text.{non-empty, all-empty}

module _ (k : List ℕ) where
  module _ (e : ends_with class_net_cache k ≡ true) where
    pub toggle-stripped : 14 < length k → toggle k ≡ some (take (length k - 14) k)
    unfolding toggle class_net_cache
    toggle-stripped h = rw e (non-empty (take (length k - 14) k) (rw length-take (omega arith)))

    pub toggle-empty : length k ≤ 14 → toggle k ≡ none
    unfolding toggle class_net_cache
    toggle-empty h = rw e (all-empty (take (length k - 14) k) (rw length-take (omega arith)))

  pub toggle-appended : ends_with class_net_cache k ≡ false → toggle k ≡ some (k ++ class_net_cache)
  unfolding toggle
  toggle-appended e = rw e
