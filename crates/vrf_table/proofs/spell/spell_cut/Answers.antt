-- `vrf_table::spell::spell_cut` satisfies its contract: the bytes before the place, the slash, and the bytes after.
use Rattle.std.proofs.Common.{length, ap, ◌∙◌, arith, length-append, length-set, length-take}
use Rattle.vrf_table.proofs.Laws.Spelled.{cut-front, cut-following, cut-written}
use Rattle.vrf_table.proofs.spell.spell_cut.Goals as goal

pub put_part-requires : goal.put_part-requires
put_part-requires c =
    let fits = simp length-append at c.requires in
    omega (arith, ap length (cut-front c.args.path.now c.args.at _ c.min-n.ensures), fits)

pub bounds-scratch-n : goal.bounds-scratch-n
bounds-scratch-n c =
    let fits = simp length-append at c.requires in
    omega (arith, ap length (cut-front c.args.path.now c.args.at _ c.min-n.ensures), length-take c.min-n.result c.args.path.now, c.min-n.ensures, fits, c.put_part.auto.m)

pub put_part-requires-2 : goal.put_part-requires-2
put_part-requires-2 c =
    let t = c.args.path.now in
    let fits = simp length-append at c.requires in
    let front = ap length (cut-front t c.args.at _ c.min-n.ensures) in
    let rest = ap length (c.following-rest.ensures ∙ cut-following t c.args.at _ c.min-n.ensures) in
    rw length-set (omega (arith, front, length-take c.min-n.result t, c.min-n.ensures, rest, fits, c.put_part.auto.m))

pub returns : goal.returns
returns c =
    cut-written c.args.path.now c.args.at _ c.min-n.ensures c.put_part.ensures c.following-rest.ensures c.put_part-2.ensures c.requires
