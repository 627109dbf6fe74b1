-- The cases of `add_group_at` where the path is found.
use Rattle.std.proofs.Common.{refl, sym, ap, ◌∙◌}
use Rattle.vrf_table.specs.Inner.Answers.{entry}
use Rattle.vrf_cache.proofs.Laws.Groups.Added.{merge-asked, merged_by, crossed-by}
use Rattle.vrf_cache.proofs.groups.merge_at.Goals.{in_default-via-in-Some+else-j-e, in_default-via-in_default}
use Rattle.vrf_cache.proofs.groups.merge_at.Goals as goal

pub returns-in-Some : goal.returns-in-Some
returns-in-Some c = record { step = crossed-by c.args.index c.requires c.in-Some.ensures (λ q. c.if-j-e.true (sym q)); same = refl }

-- no other group has the index: it is found at this group, or not at all
pub returns-in_default : goal.returns-in_default
returns-in_default c =
    elim c.in_default.branch [
      | in_default-via-in-Some+else-j-e w ↦
          let own = merge-asked c.args.index c.requires (sym (ap entry w.in-Some.is) ∙ c.find_index.ensures) w.if-j-e.false in
          rw (merged_by c.args.index c.requires own.free) c.merge_group.ensures
      | in_default-via-in_default w ↦
          let free = merge-asked c.args.index c.requires (sym (ap entry w.in_default.is) ∙ c.find_index.ensures) tt in
          rw (merged_by c.args.index c.requires free.free) c.merge_group.ensures
    ]
