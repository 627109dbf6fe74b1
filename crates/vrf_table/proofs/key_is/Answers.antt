-- `vrf_table::key_is` satisfies its contract: one case for each key number.
use Rattle.std.proofs.Common.{sym, arith, eq-eqb}
use Rattle.vrf_path.specs.Keys.{key_is}
use Rattle.vrf_path.proofs.Laws.Keys.{core-other}
use Rattle.vrf_table.specs.TextIndex.{key_numbered}
use Rattle.vrf_table.proofs.Texts.{numbered-core}
use Rattle.vrf_table.proofs.key_is.Goals as goal
use Rattle.vrf_table.proofs.key_is.Goals.{then-k-path, else-k-path}

pub returns-in-0 : goal.returns-in-0
unfolding key_numbered key_is
returns-in-0 c = rw c.in-0.is c.same.ensures

pub returns-in-1 : goal.returns-in-1
unfolding key_numbered
returns-in-1 c = rw (c.in-1.is, ← c.default_object_alias.ensures.text) c.is_key.ensures

-- any other number is that of the core alias
pub returns-then-path-k : goal.returns-then-path-k
returns-then-path-k c =
    rw (numbered-core c.args.path.now c.args.number (omega arith), ← c.core_alias.ensures.text) c.is_key-then-path-k.ensures

pub returns-else-path-k : goal.returns-else-path-k
returns-else-path-k c =
    elim c.if-k-path.branch [
      | then-k-path w ↦ cc (eq-eqb _ _ w.if-k-path.true)
      | else-k-path w ↦
          rw (c.if-path-k.false, numbered-core c.args.path.now c.args.number (omega arith))
          (sym (core-other _ _ w.if-k-path.false (λ e. cc (eq-eqb _ _ e))))
    ]
