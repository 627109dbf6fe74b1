-- `vrf_reader::objects::read_flags` satisfies its contract.
use Rattle.std.proofs.Common.{ne_eqb}
use Rattle.vrf_reader.proofs.Laws.Objects.{flags-read, flags-none}
use Rattle.vrf_reader.proofs.objects.read_flags.Goals as goal
use Rattle.vrf_reader.proofs.objects.read_flags.Goals.{then-exporting-via-then-exporting, then-exporting-via-else-exporting+then-guid-eq1}

pub returns-then-exporting : goal.returns-then-exporting
returns-then-exporting c =
    flags-read _ _
    (elim c.then-exporting.branch [
      | then-exporting-via-then-exporting w ↦ rw w.if-exporting.true
      | then-exporting-via-else-exporting+then-guid-eq1 w ↦ rw (w.if-exporting.false, w.if-guid-eq1.true)
    ])
    _ c.read_u8.result c.read_u8.ensures

pub returns : goal.returns
returns c = flags-none _ _ (rw (c.if-exporting.false, ne_eqb c.args.guid 1 c.if-guid-eq1.false))
