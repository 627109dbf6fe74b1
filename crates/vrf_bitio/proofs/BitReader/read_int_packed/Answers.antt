-- `vrf_bitio::BitReader::read_int_packed` satisfies its contract: up to four chunks in the loop, and then the fifth.
use Rattle.std.proofs.Common.{arith, refl}
use Rattle.std.proofs.lemmas.Result.{err_from_is_err_and}
use Rattle.vrf_bitio.proofs.Packed.{started, ended, chunk-fits, last, next}
use Rattle.vrf_bitio.proofs.BitReader.read_int_packed.Goals as goal

pub loop-k-init : goal.loop-k-init
loop-k-init c = (refl, started c.args.self.now)

pub returns-in_err-b : goal.returns-in_err-b
returns-in_err-b c =
    let p = err_from_is_err_and c.from_residual.result c.from_residual.ensures.1 in
    rw (p.1, p.2) (ended c.args.self.now c.loop-k.at _ _ c.loop-k.invariant.1 c.in_err-b.ensures.0, c.loop-k.invariant.0)

pub with_chunk-low-requires : goal.with_chunk-low-requires
with_chunk-low-requires c = chunk-fits _ _ _ c.loop-k-test.true c.loop-k.invariant.1.small (omega arith)

pub returns-then-b-eq0 : goal.returns-then-b-eq0
returns-then-b-eq0 c =
    last c.args.self.now c.loop-k.at _ _ c.loop-k.invariant.1 c.loop-k-test.true _ _ c.read_u8.new.self c.in_ok-b.ensures c.with_chunk-low.ensures c.if-b-eq0.true

pub loop-k-preserved : goal.loop-k-preserved
loop-k-preserved c = (
  c.loop-k.invariant.0,
  next c.args.self.now c.loop-k.at _ _ c.loop-k.invariant.1 c.loop-k-test.true _ _ c.read_u8.new.self c.in_ok-b.ensures c.with_chunk-low.ensures (omega arith) c.if-b-eq0.false,
)
