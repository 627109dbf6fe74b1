-- `vrf_checkpoint::guids::read_literal` satisfies its contract: a text, then allowance 5.
use Rattle.std.proofs.Common.{arith}
use Rattle.vrf_checkpoint.proofs.Laws.Ends.{err-passed}
use Rattle.vrf_checkpoint.proofs.Laws.Guids.{no-literal, literal-passed, literal-taken}
use Rattle.vrf_checkpoint.proofs.guids.read_literal.Goals as goal

pub returns-in_err-n : goal.returns-in_err-n
returns-in_err-n c = λ table represents.
    rw (err-passed _ _ c.from_residual.ensures.1) (no-literal c.requires.good represents _ c.in_err-n.ensures.reads)

pub returns-then-literals_allowed-t : goal.returns-then-literals_allowed-t
returns-then-literals_allowed-t c = λ table represents.
    literal-passed c.requires.good represents c.in_ok-n.ensures.reads.gave (omega (arith, c.literals_allowed.ensures.0))

pub returns : goal.returns
returns c = λ table represents.
    literal-taken c.requires.good represents c.in_ok-n.ensures.reads c.requires.few (omega (arith, c.literals_allowed.ensures.0)) (omega arith)
    (rw c.position-at.ensures at c.put_literal.ensures)
