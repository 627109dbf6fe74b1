-- `vrf_table::ends_with_name` satisfies its contract.
use Rattle.std.proofs.Common.{◌∙◌}
use Rattle.vrf_table.proofs.Texts.{end-by-name, end-not}
use Rattle.vrf_table.proofs.ends_with_name.Goals as goal

pub returns-then-same : goal.returns-then-same
returns-then-same c =
    let x = c.args in
    end-by-name x.path.now x.name.now x.suffix.now x.from c.requires c.same.ensures c.if-same.true c.same-then-same.ensures

pub returns-else-same : goal.returns-else-same
returns-else-same c =
    let x = c.args in
    c.if-same.false ∙ end-not x.path.now x.name.now x.suffix.now x.from c.requires c.same.ensures c.if-same.false
