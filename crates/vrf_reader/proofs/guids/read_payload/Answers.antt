-- `vrf_reader::guids::read_payload` satisfies its contract: the window, its object, and the bytes that the object left.
use Rattle.vrf_model.specs.Runs.{object_at}
use Rattle.vrf_reader.proofs.Laws.Simulates.{passed-on}
use Rattle.vrf_reader.proofs.Laws.Within.{sub-inside}
use Rattle.vrf_reader.proofs.Laws.Guids.{payload-short, payload-refused, payload-whole, payload-trailing}
use Rattle.vrf_reader.proofs.guids.read_payload.Goals as goal

pub returns-in_err-payload : goal.returns-in_err-payload
returns-in_err-payload c =
    passed-on _ _ _ c.from_residual.ensures.1 (payload-short _ _ _ c.requires.1.1 c.requires.0 c.in_err-payload.ensures.0)

pub returns-in_err-guid : goal.returns-in_err-guid
unfolding object_at
returns-in_err-guid c =
    passed-on _ _ _ c.from_residual-in_err-guid.ensures.1 (payload-refused _ _ (sub-inside c.args.size c.requires.1.1 c.in_ok-payload.ensures) _ c.in_err-guid.ensures.reads)

pub returns-then-left-ne0 : goal.returns-then-left-ne0
unfolding object_at
returns-then-left-ne0 c =
    payload-trailing _ _ (sub-inside c.args.size c.requires.1.1 c.in_ok-payload.ensures) _ c.in_ok-guid.ensures.reads (rw c.bits_remaining-left.ensures) c.if-left-ne0.true

pub returns : goal.returns
unfolding object_at
returns c =
    payload-whole _ _ (sub-inside c.args.size c.requires.1.1 c.in_ok-payload.ensures) _ c.in_ok-guid.ensures.reads (rw c.bits_remaining-left.ensures) c.if-left-ne0.false
