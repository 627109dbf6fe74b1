-- `vrf_reader::objects::skip_checksum` satisfies its contract.
use Rattle.std.proofs.lemmas.Result.{err_from_is_err_and}
use Rattle.vrf_reader.proofs.Laws.Objects.{checksum-none, checksum-read, checksum-refused}
use Rattle.vrf_reader.proofs.objects.skip_checksum.Goals as goal

pub returns-in_err-read_u32 : goal.returns-in_err-read_u32
returns-in_err-read_u32 c =
    let p = err_from_is_err_and c.from_residual.result c.from_residual.ensures.1 in
    rw (p.1, p.2) (checksum-refused _ c.if-flags-eq1.true c.in_err-read_u32.field-0.0 c.in_err-read_u32.ensures.0)

pub returns-in_ok-read_u32 : goal.returns-in_ok-read_u32
returns-in_ok-read_u32 c = checksum-read _ c.if-flags-eq1.true c.in_ok-read_u32.ensures

pub returns-else-flags-eq1 : goal.returns-else-flags-eq1
returns-else-flags-eq1 c = checksum-none _ c.if-flags-eq1.false
