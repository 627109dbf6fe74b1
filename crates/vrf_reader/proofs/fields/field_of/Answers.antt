-- `vrf_reader::fields::field_of` satisfies its contract.
use Rattle.vrf_bitio.specs.Number.{byte}
use Rattle.vrf_reader.specs.Inner.Fields.{field_of}
use Rattle.vrf_reader.proofs.Laws.Simulates.{read-stops, passed-on}
use Rattle.vrf_reader.proofs.Laws.Fields.{field-absent, field-present}
use Rattle.vrf_reader.proofs.fields.field_of.Goals as goal

pub returns-in_err-read_u8 : goal.returns-in_err-read_u8
unfolding field_of
returns-in_err-read_u8 c =
    passed-on _ _ _ c.from_residual.ensures.1 (read-stops byte _ c.requires.0 _ c.in_err-read_u8.ensures.0)

pub returns-then-branch-eq0 : goal.returns-then-branch-eq0
returns-then-branch-eq0 c = field-absent _ c.requires.0 c.in_ok-read_u8.ensures c.if-branch-eq0.true

pub returns : goal.returns
returns c =
    field-present _ c.requires.0 c.in_ok-read_u8.ensures c.if-branch-eq0.false _ _ c.exported_field.result c.exported_field.ensures
