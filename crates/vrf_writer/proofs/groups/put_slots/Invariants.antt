-- After an iteration, one more slot is written.
use Rattle.std.proofs.Common.{ℕ, length}
use Rattle.vrf_model.specs.Book.{Group}
use Rattle.vrf_model.specs.Lookup.{place_or}
use Rattle.vrf_model.specs.Writer.{encode_slot}
use Rattle.vrf_store.specs.Store.{store_of}
use Rattle.vrf_store.specs.Inner.Stepped.{held}
use Rattle.vrf_writer.proofs.Laws.Each.{Sent}
use Rattle.vrf_writer.proofs.Laws.Groups.{slot_at}
use Rattle.vrf_writer.proofs.groups.put_slots.Given as goal

abbrev pub invariant-loop-slot : goal.invariant-loop-slot
invariant-loop-slot l =
    Sent (λ (q : ℕ). encode_slot q (slot_at (store_of l.m) l.place q)) (λ (q : ℕ). q) (place_or (λ (g : Group). length g.slots) 0 (held l.m).groups l.place) l.initial.out l.out l.at l.slot
