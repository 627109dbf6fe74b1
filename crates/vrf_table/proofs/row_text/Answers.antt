-- `vrf_table::row_text` satisfies its contract: the part has the length that the row gives.
use Rattle.std.proofs.Common.{arith}
use Rattle.vrf_table.specs.Table.{at, len}
use Rattle.vrf_table.proofs.Texts.{text-part}
use Rattle.vrf_table.proofs.row_text.Goals as goal

pub slice_bounds-result-end : goal.slice_bounds-result-end
unfolding at len
slice_bounds-result-end c = omega arith

pub returns : goal.returns
unfolding at len
returns c =
    let from = c.get32-from in
    let size = c.get32 in
    text-part _ _ _ from.result size.result from.ensures size.ensures
