-- `vrf_store::look::guids_by_key` satisfies its contract.
use Rattle.std.proofs.Common.{length, ap, arith}
use Rattle.vrf_store.specs.Store.{header_of}
use Rattle.vrf_store.proofs.Laws.Check.Valid.{need-shaped}
use Rattle.vrf_store.proofs.look.guids_by_key.Goals as goal

pub invariant_of-result : goal.invariant_of-result
invariant_of-result c =
    let s = need-shaped (header_of c.args.m.now) c.args.m.now c.requires.0 in
    record {
      rows_in = omega (arith, ap length c.guid_rows.ensures, s);
      heads_in = omega (arith, ap length c.guid_heads.ensures, s);
      some = omega arith;
    }
