-- `vrf_path::eight_differ` satisfies its contract.
use Rattle.vrf_path.proofs.Texts.{eight-outcome}
use Rattle.vrf_path.proofs.eight_differ.Goals as goal

pub returns : goal.returns
returns c = rw (c.eight.ensures, c.eight-2.ensures) (eight-outcome _ _ _)
