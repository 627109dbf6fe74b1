-- `vrf_store::look::front_start` satisfies its contract.
use Rattle.std.proofs.Common.{sym, ap, ◌∙◌, arith, length-take, take_all}
use Rattle.vrf_table.specs.TextIndex.{text_start}
use Rattle.vrf_store.specs.Layout
use Rattle.vrf_store.specs.Store.{allowances_of, store_of}
use Rattle.vrf_store.proofs.look.front_start.Goals as goal

pub returns-then-n-name : goal.returns-then-n-name
returns-then-n-name c = c.requires.3 ∙ ap (text_start (store_of c.args.m.now).leaf_heads (Layout.leaf_buckets (allowances_of c.args.m.now))) (sym (take_all c.args.n c.args.name.now (omega (arith, c.if-n-name.true))))

pub leaf_start-requires : goal.leaf_start-requires
leaf_start-requires c = (c.requires.0, rw length-take (omega arith))
