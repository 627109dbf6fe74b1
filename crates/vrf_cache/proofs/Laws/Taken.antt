-- Changes of a memory in sequence: no change at all, one change after another, and a change with its counters.
use Rattle.std.specs.Prelude.{refl, List, ℕ}
use Rattle.std.proofs.Common.{ap, ◌∙◌, arith}
use Rattle.vrf_bitio.specs.Bits.{Bytes}
use Rattle.vrf_model.specs.Book.{Content, Counters, Increments, no_increment, stepped}
use Rattle.vrf_store.specs.Store.{Store, counters_of}
use Rattle.vrf_store.specs.Inner.WellFormed.{WellFormed}
use Rattle.vrf_store.specs.Inner.Stepped.{held, Stepped}
use Rattle.vrf_store.specs.Inner.Counters.{CountersStepped}
use Rattle.vrf_store.proofs.Laws.Counters.{counted-held, counted-good, stays}
use Rattle.vrf_cache.specs.Inner.Taken.{HoldsContent}

-- nothing changed and nothing counted
pub unmoved : {m : List ℕ} → WellFormed m → Bytes m → HoldsContent m m (held m) no_increment
unfolding stepped no_increment counters_of
unmoved {m} good b =
    let same = stays m b (omega (arith, good.enough)) in
    record { good = good; content = refl; counters = cc (same 11, same 13, same 15, same 17, same 19); long = refl; literals = refl }

pub then : {m y z : List ℕ} {c d : Content} → Stepped m y c → Stepped y z d → Stepped m z d
then a b = record { good = b.good; content = b.content; counters = b.counters ∙ a.counters; long = b.long ∙ a.long; literals = b.literals ∙ a.literals }

-- two changes, of which the second leaves the content as it was
pub same_then : {m y z : List ℕ} {c : Content} → Stepped m y c → Stepped y z (held y) → Stepped m z c
same_then a b = record { good = b.good; content = b.content ∙ a.content; counters = b.counters ∙ a.counters; long = b.long ∙ a.long; literals = b.literals ∙ a.literals }

-- a change, then the counters go up by t
pub counted-then : {m y z : List ℕ} {c : Content} {t : Increments} → Stepped m y c → CountersStepped y z t → HoldsContent m z c t
counted-then {t = t} a k = record {
  good = counted-good k a.good;
  content = counted-held k ∙ a.content;
  counters = k.counters ∙ ap (λ (x : Counters). stepped x t) a.counters;
  long = k.long ∙ a.long;
  literals = ap (λ (s : Store). s.literals) k.store ∙ a.literals;
}
