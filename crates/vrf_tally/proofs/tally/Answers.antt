-- `vrf_tally::tally` satisfies its contract.
use native.Mathlib.Omega.{arith}
use lib.ListN.{length}
use borrow.Author.Tests.{lt-ltb, le-ltb}
use Rattle.vrf_tally.specs.Tally.{tally}
use Rattle.vrf_tally.proofs.tally.Goals as goal

pub returns-then-input-gt65536 : goal.returns-then-input-gt65536
unfolding tally
returns-then-input-gt65536 c =
    (omega (arith, c.put_refusal.ensures.fits), rw (lt-ltb 65536 (length c.args.input.now) c.if-input-gt65536.true) c.put_refusal.ensures)

pub returns : goal.returns
unfolding tally
returns c =
    (omega (arith, c.put_answer.ensures.fits), rw (le-ltb 65536 (length c.args.input.now) c.if-input-gt65536.false, ← c.read.ensures) c.put_answer.ensures)
