-- The first e rows are passed.
use Rattle.std.proofs.Common.{◌≡◌, ◌+◌, ◌*◌, length}
use Rattle.vrf_store.proofs.Laws.Fields.Drop.{Passing}
use Rattle.vrf_store.proofs.fields.pass_rows.Given as goal

abbrev pub invariant-loop-e : goal.invariant-loop-e
invariant-loop-e l =
    (length l.t ≡ 24 * l.cap + 4 * (4 * l.cap + 1)) × Passing l.cap l.place l.initial.t l.t l.e l.kept.rows l.kept.gone
