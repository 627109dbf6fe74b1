-- `vrf_store::fields::pass_rows` satisfies its contract.
use Rattle.std.proofs.Common.{◌≡◌, ◌∙◌, arith}
use Rattle.vrf_store.proofs.Laws.Fields.Drop.{pass-start, pass_step}
use Rattle.vrf_store.proofs.fields.pass_rows.Goals as goal

pub loop-e-init : goal.loop-e-init
loop-e-init c = (omega (arith, c.zero_words.auto.m, c.requires), pass-start _ _ _)

pub loop-e-preserved : goal.loop-e-preserved
loop-e-preserved c =
    (omega (arith, c.pass_row-kept.auto.t, c.loop-e.invariant.0), pass_step c.loop-e.invariant.1 c.pass_row-kept.ensures)

pub returns : goal.returns
returns c =
    let all : c.loop-e.e ≡ c.args.n = omega arith in
    c.loop-e.invariant.1.state ∙ rw (c.zero_words.ensures, all)
