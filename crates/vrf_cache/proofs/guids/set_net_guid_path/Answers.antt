-- The cases of `set_guid`.
use Rattle.std.proofs.Common.{sym, ap, ◌∙◌, rules}
use Rattle.vrf_table.specs.Inner.Answers.{entry}
use Rattle.vrf_cache.proofs.Laws.Guids.{set_new, found, set_same, set_other}
use Rattle.vrf_cache.proofs.guids.set_net_guid_path.Goals as goal

pub is_set-requires : goal.is_set-requires
is_set-requires c = found c.args.m.now c.args.guid c.args.path.now c.args.outer c.requires.0 (sym c.find_guid.ensures ∙ ap entry c.in-Some.is) c.requires.1

pub returns-then-is_set : goal.returns-then-is_set
returns-then-is_set c =
    set_same c.args.m.now c.args.guid c.args.path.now c.args.outer c.requires.0 (sym c.find_guid.ensures ∙ ap entry c.in-Some.is) (λ i. search rules) (sym c.if-is_set.true ∙ c.is_set.ensures)

pub change_guid-requires : goal.change_guid-requires
change_guid-requires c = found c.args.m.now c.args.guid c.args.path.now c.args.outer c.requires.0 (sym c.find_guid.ensures ∙ ap entry c.in-Some.is) c.requires.1

pub returns-else-is_set : goal.returns-else-is_set
returns-else-is_set c =
    rw (set_other c.args.m.now c.args.guid c.args.path.now c.args.outer c.requires.0 (sym c.find_guid.ensures ∙ ap entry c.in-Some.is) (sym c.if-is_set.false ∙ c.is_set.ensures)) c.change_guid.ensures

pub returns-in-None : goal.returns-in-None
returns-in-None c =
    let x = c.args in
    rw (set_new x.m.now x.guid x.path.now x.outer (sym c.find_guid.ensures ∙ ap entry c.in-None.is)) c.add_guid.ensures
