-- `vrf_store::look::first_groups` satisfies its contract.
use Rattle.std.proofs.Common.{length, ap, arith}
use Rattle.vrf_store.specs.Store.{header_of}
use Rattle.vrf_store.proofs.Laws.Check.Valid.{need-shaped}
use Rattle.vrf_store.proofs.look.first_groups.Goals as goal

pub invariant_of-result : goal.invariant_of-result
invariant_of-result c =
    let s = need-shaped (header_of c.args.m.now) c.args.m.now c.requires.enough in
    record {
      rows_in = omega (arith, ap length c.group_rows.ensures, s);
      texts_in = rw (c.group_rows.ensures, c.texts.ensures) c.requires.texts;
      few = omega arith;
    }
