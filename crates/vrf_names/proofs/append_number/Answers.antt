-- `vrf_names::append_number` satisfies its contract.
use Rattle.std.proofs.Common.{arith, refl}
use Rattle.vrf_names.proofs.Names.{append-long, append-short, append-fits}
use Rattle.vrf_names.proofs.append_number.Goals as goal

pub returns-then-len-gt-NAME_BYTES : goal.returns-then-len-gt-NAME_BYTES
returns-then-len-gt-NAME_BYTES c =
    append-long _ _ c.requires _ c.ranges.number c.suffix_of-s.result c.suffix_of-s.ensures c.suffix_len.ensures.0 _ c.if-len-gt-NAME_BYTES.true (refl, refl, refl)

pub returns-then-out-len : goal.returns-then-out-len
returns-then-out-len c =
    append-short _ _ c.requires _ c.ranges.number c.suffix_of-s.result c.suffix_of-s.ensures c.suffix_len.ensures.0 _ (omega arith) (omega arith) c.short.ensures

pub returns : goal.returns
returns c =
    append-fits _ _ c.requires _ c.ranges.number c.suffix_of-s.result c.suffix_of-s.ensures c.suffix_len.ensures.0 (omega arith) (omega arith) c.put_suffix.ensures
