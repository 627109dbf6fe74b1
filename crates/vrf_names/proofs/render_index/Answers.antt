-- `vrf_names::render_index` satisfies its contract.
use Rattle.std.proofs.Common.{arith, length}
use Rattle.vrf_names.specs.Names.{decimal}
use Rattle.vrf_names.proofs.Names.{answer-short, answer-fits}
use Rattle.vrf_names.proofs.render_index.Goals as goal

pub returns-then-out-len : goal.returns-then-out-len
returns-then-out-len c =
    answer-short (length c.args.out.now) (decimal _) c.args.out.now c.decimal_len-len.ensures.0 _ (omega arith) (omega arith) c.short.ensures

pub returns : goal.returns
returns c =
    answer-fits (length c.args.out.now) (decimal _) c.args.out.now c.decimal_len-len.ensures.0 (omega arith) (omega arith) c.put_digits.ensures
