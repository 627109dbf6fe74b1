-- `vrf_names::put_decimal` satisfies its contract: what does not fit is not written.
use mathlib.Core.Path.{sym, ◌∙◌}
use native.Mathlib.Omega.{arith}
use Rattle.vrf_names.specs.Names.{decimal}
use Rattle.vrf_names.proofs.Laws.Names.{put-fits, put-nothing}
use Rattle.vrf_names.proofs.put_decimal.Goals as goal

pub returns-then-out-len : goal.returns-then-out-len
returns-then-out-len c = sym (put-nothing _ (decimal _) _ (omega arith))

pub returns-then-out-len-2 : goal.returns-then-out-len-2
returns-then-out-len-2 c = sym (put-nothing _ (decimal _) _ (omega arith))

pub returns : goal.returns
returns c = c.put_digits.ensures ∙ sym (put-fits _ (decimal _) _ (omega arith))
