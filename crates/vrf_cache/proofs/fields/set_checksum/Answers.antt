-- The name stays at its position.
use Rattle.vrf_store.proofs.Laws.Memory.WellFormed.{field_row}
use Rattle.vrf_cache.proofs.Laws.Fields.{name-stays, name-kept}
use Rattle.vrf_cache.proofs.fields.set_checksum.Goals as goal

pub text_span-span-requires : goal.text_span-span-requires
text_span-span-requires c = field_row c.requires.0.valid c.field_rows.ensures c.requires.1

pub set_field_row-requires : goal.set_field_row-requires
set_field_row-requires c =
    let span = rw c.field_rows.ensures at c.text_span-span.ensures in
    (c.requires.0, name-stays c.requires.0 c.requires.1 span.0 span.1)

pub returns : goal.returns
returns c =
    let span = rw c.field_rows.ensures at c.text_span-span.ensures in
    name-kept c.requires.0 c.requires.1 span.0 span.1 c.args.checksum c.set_field_row.ensures
