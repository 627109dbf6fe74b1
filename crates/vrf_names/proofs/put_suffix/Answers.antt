-- `vrf_names::put_suffix` satisfies its contract.
use Rattle.vrf_names.proofs.Names.{put-empty, put-plain, put-minus}
use Rattle.vrf_names.proofs.put_suffix.Goals as goal

pub returns-in-Empty : goal.returns-in-Empty
returns-in-Empty c = put-empty _ _ c.in-Empty.is

pub returns-in-Plain : goal.returns-in-Plain
returns-in-Plain c =
    put-plain _ _ c.requires c.in-Plain.is c.put_digits.ensures

pub returns-in-Minus : goal.returns-in-Minus
returns-in-Minus c =
    put-minus _ _ c.requires c.in-Minus.is c.put_digits-in-Minus.ensures
