-- `vrf_table::leaf_is` satisfies its contract.
use Rattle.std.proofs.Common.{◌++◌, sym, arith, length-append}
use Rattle.vrf_table.proofs.Texts.{leaf-not, leaf-end}
use Rattle.vrf_table.proofs.leaf_is.Goals as goal

pub returns-then-n-eq0 : goal.returns-then-n-eq0
returns-then-n-eq0 c =
    let x = c.args in
    let size = length-append x.name.now x.suffix.now in
    sym (leaf-not x.path.now (x.name.now ++ x.suffix.now) (λ is. omega (arith, is.some_bytes, size, c.if-n-eq0.true)))

pub returns-then-path-n : goal.returns-then-path-n
returns-then-path-n c =
    let x = c.args in
    let size = length-append x.name.now x.suffix.now in
    sym (leaf-not x.path.now (x.name.now ++ x.suffix.now) (λ is. omega (arith, is.shorter, size, c.if-path-n.true)))

pub returns-then-path-from-ne46 : goal.returns-then-path-from-ne46
returns-then-path-from-ne46 c =
    let x = c.args in
    let size = length-append x.name.now x.suffix.now in
    sym (leaf-not x.path.now (x.name.now ++ x.suffix.now) (λ is. c.if-path-from-ne46.true (rw size at is.dot)))

pub returns : goal.returns
returns c =
    let l = c.args.name.now ++ c.args.suffix.now in
    let size = length-append c.args.name.now c.args.suffix.now in
    leaf-end c.args.path.now l c.requires.0 (omega (arith, size)) (omega (arith, size)) (rw (← size) at c.if-path-from-ne46.false) (rw (← size) at c.ends_with_name.ensures)
