-- `vrf_store::open::write_header` satisfies its contract: it makes six writes.
use Rattle.std.proofs.Common.{arith}
use Rattle.vrf_store.proofs.Laws.Opening.Opening.{written-header}
use Rattle.vrf_store.proofs.open.write_header.Goals as goal

pub returns : goal.returns
returns c =
    let tops = c.requires.1 in
    written-header _ c.args.m.now c.requires.0 (omega (arith, tops)) (omega (arith, tops)) (omega (arith, tops)) (omega (arith, tops)) (omega (arith, tops)) c.put32.ensures c.put32-2.ensures c.put32-3.ensures c.put32-4.ensures c.put32-5.ensures c.zero_words.ensures
