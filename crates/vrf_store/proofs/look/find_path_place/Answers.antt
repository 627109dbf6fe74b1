-- `vrf_store::look::find_path_place` satisfies its contract.
use Rattle.std.specs.Prelude.{None}
use Rattle.std.proofs.Common.{◌≡◌, ℕ, List, sym, ap, ◌∙◌, arith}
use mathlib.Core.Option.{Option}
use Rattle.vrf_table.specs.TextIndex.{find_path}
use Rattle.vrf_table.specs.Inner.Answers.{entry}
use Rattle.vrf_table.specs.Inner.Found.{path_found}
use Rattle.vrf_table.specs.declared.PathIndex.{PathIndex}
use Rattle.vrf_store.specs.Layout
use Rattle.vrf_store.specs.Store.{Store}
use Rattle.vrf_store.specs.Inner.Indexes.{PathParts}
use Rattle.vrf_store.proofs.Laws.Memory.WellFormed.{readable}
use Rattle.vrf_store.proofs.Laws.Lookups.{third, path-found}
use Rattle.vrf_store.proofs.look.find_path_place.Goals as goal

-- what the index finds is what a search over the store's parts finds
found-place : {t : PathIndex} {s : Store} {n m : ℕ} (k : List ℕ) {p f : Option ℕ} →
    PathParts t s n → n ≡ m → f ≡ path_found t k → p ≡ third (find_path s.group_rows s.texts s.path_links s.path_heads (Layout.path_buckets s.header.allowed) m k) → third f ≡ p
found-place k parts en ef ep = cc

pub groups_by_path-requires : goal.groups_by_path-requires
groups_by_path-requires c = rw c.groups.ensures (readable c.requires.0)

pub returns : goal.returns
unfolding third
returns c = found-place c.args.k.now c.groups_by_path.ensures c.groups.ensures (sym (ap entry c.in_ok-e.was) ∙ c.find.ensures) (path-found c.requires.0.valid c.args.k.now)

pub returns-in_err-e : goal.returns-in_err-e
unfolding third
returns-in_err-e c =
    let gone : c.from_residual.result ≡ None = grind arith in
    rw gone (found-place c.args.k.now c.groups_by_path.ensures c.groups.ensures (sym (ap entry c.in_err-e.was) ∙ c.find.ensures) (path-found c.requires.0.valid c.args.k.now))
