-- `vrf_reader::fields::exported_field` satisfies its contract.
use Rattle.vrf_bitio.specs.Number.{packed}
use Rattle.vrf_model.specs.Runs.{exported_field}
use Rattle.vrf_reader.proofs.Laws.Simulates.{read-on, read-stops, reads, passed-on}
use Rattle.vrf_reader.proofs.fields.exported_field.Goals as goal

pub returns-in_err-handle : goal.returns-in_err-handle
unfolding exported_field
returns-in_err-handle c =
    passed-on _ _ _ c.from_residual.ensures.1 (read-stops packed _ c.requires.0 _ c.in_err-handle.ensures.0)

pub returns : goal.returns
unfolding exported_field
returns c = reads (read-on packed _ c.requires.0 c.in_ok-handle.ensures) _ _ c.named_field.result c.named_field.ensures.reads
