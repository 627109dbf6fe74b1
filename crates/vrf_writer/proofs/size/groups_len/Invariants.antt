-- The sum is the length of the groups so far.
use Rattle.std.proofs.Common.{ℕ}
use Rattle.vrf_store.specs.Store.{header_of, store_of}
use Rattle.vrf_writer.specs.Inner.Groups.{group_at}
use Rattle.vrf_writer.specs.Inner.Size.{group_bytes}
use Rattle.vrf_writer.proofs.Laws.Size.{Summed}
use Rattle.vrf_writer.proofs.size.groups_len.Given as goal

abbrev pub invariant-loop-g : goal.invariant-loop-g
invariant-loop-g l = Summed (λ (e : ℕ). group_bytes (group_at (store_of l.m) e)) (header_of l.m).groups l.sum l.g
