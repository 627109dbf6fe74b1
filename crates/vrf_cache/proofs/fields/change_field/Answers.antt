-- The row has the name already, so only its checksum changes.
use Rattle.std.proofs.Common.{sym, ◌∙◌, rules}
use Rattle.vrf_cache.proofs.Laws.Fields.{same_taken}
use Rattle.vrf_cache.proofs.fields.change_field.Goals as goal

pub returns-then-same : goal.returns-then-same
returns-then-same c = same_taken c.args.checksum c.requires (rw c.row_name.ensures at (sym c.same.ensures ∙ c.if-same.true)) (λ i. search rules) c.set_checksum.ensures
