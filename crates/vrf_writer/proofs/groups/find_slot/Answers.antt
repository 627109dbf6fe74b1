-- A row with the key is the one that a search finds.
use Rattle.std.proofs.Common.{ℕ, List, sym, ap, ◌∙◌, arith}
use Rattle.vrf_table.specs.Table.{key}
use Rattle.vrf_store.specs.Store.{slot_key}
use Rattle.vrf_writer.proofs.Laws.Groups.{row-found}
use Rattle.vrf_writer.proofs.groups.find_slot.Goals as goal

pub returns-then-row_key-key : goal.returns-then-row_key-key
unfolding slot_key
returns-then-row_key-key c =
    row-found c.requires.valid (omega (arith, c.fields.ensures)) (ap (λ (r : List ℕ). key r c.args.next) (sym c.field_rows.ensures) ∙ sym c.row_key.ensures ∙ c.if-row_key-key.true)
