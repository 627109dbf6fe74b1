-- `vrf_store::texts::append_text` satisfies its contract: the text is after the bytes used, where no row has its text, and inside its half.
use Rattle.std.proofs.Common.{arith}
use Rattle.vrf_store.specs.Store.{allowances_of, header_of}
use Rattle.vrf_store.proofs.Laws.Memory.Regions.{half-within}
use Rattle.vrf_store.proofs.Laws.Texts.Appended.{append-written}
use Rattle.vrf_store.proofs.texts.append_text.Goals as goal

pub overflow_add-from : goal.overflow_add-from
overflow_add-from c = let m = c.args.m.now in omega (arith, half-within (allowances_of m) (header_of m).half)

pub put_part-requires : goal.put_part-requires
put_part-requires c = let m = c.args.m.now in omega (arith, half-within (allowances_of m) (header_of m).half)

pub returns : goal.returns
returns c = append-written _ _ _ _ _ _ c.requires c.used.ensures c.half_at.ensures c.put_part.ensures c.put32.ensures
