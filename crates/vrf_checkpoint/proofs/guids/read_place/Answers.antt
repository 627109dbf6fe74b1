-- `vrf_checkpoint::guids::read_place` satisfies its contract: a place, then its literal, read again.
use Rattle.std.proofs.Common.{arith}
use Rattle.vrf_checkpoint.proofs.Laws.Ends.{err-passed}
use Rattle.vrf_checkpoint.proofs.Laws.Guids.{no_place, place-beyond, place_found, place-taken}
use Rattle.vrf_checkpoint.proofs.guids.read_place.Goals as goal

pub returns-in_err-place : goal.returns-in_err-place
returns-in_err-place c = λ table represents.
    rw (err-passed _ _ c.from_residual.ensures.1) (no_place c.requires.good represents c.args.entry _ c.in_err-place.ensures.0)

pub returns-then-t-place : goal.returns-then-t-place
returns-then-t-place c = λ table represents.
    place-beyond c.requires.good represents c.args.entry c.in_ok-place.ensures (omega arith)

pub returns-in_err-n : goal.returns-in_err-n
returns-in_err-n c = λ table represents.
    let g = c.in_ok-place.ensures in
    place_found c.requires.good represents c.args.entry g (omega arith)
    (record { same = g.same; first = g.first; count = g.count }) c.literal_at.ensures _ c.in_err-n.ensures.reads

pub returns : goal.returns
returns c = λ table represents.
    let g = c.in_ok-place.ensures in
    place-taken c.requires.good represents c.args.entry g (omega arith)
    (record { same = g.same; first = g.first; count = g.count }) c.literal_at.ensures c.in_ok-n.ensures.reads c.requires.few
