-- `vrf_store::texts::compact` satisfies its contract: the numbers it reads first stay true, and after each table the next can be moved.
use Rattle.vrf_store.proofs.Laws.Texts.Compacted.{compaction-start, first-movable, second-movable, third-movable, compact-written}
use Rattle.vrf_store.proofs.texts.compact.Goals as goal

pub move_texts-first-requires : goal.move_texts-first-requires
move_texts-first-requires c =
    let found = compaction-start c.half_at-from.ensures c.other_half_at-to.ensures c.guids-guid_count.ensures c.groups-group_count.ensures c.fields-field_count.ensures c.guids_allowed.ensures.0 c.groups_allowed.ensures.0 in
    first-movable c.requires found

pub move_texts-second-requires : goal.move_texts-second-requires
move_texts-second-requires c =
    let found = compaction-start c.half_at-from.ensures c.other_half_at-to.ensures c.guids-guid_count.ensures c.groups-group_count.ensures c.fields-field_count.ensures c.guids_allowed.ensures.0 c.groups_allowed.ensures.0 in
    second-movable c.requires found c.move_texts-first.ensures

pub move_texts-end-requires : goal.move_texts-end-requires
move_texts-end-requires c =
    let found = compaction-start c.half_at-from.ensures c.other_half_at-to.ensures c.guids-guid_count.ensures c.groups-group_count.ensures c.fields-field_count.ensures c.guids_allowed.ensures.0 c.groups_allowed.ensures.0 in
    third-movable c.requires found c.move_texts-first.ensures c.move_texts-second.ensures

pub returns : goal.returns
returns c =
    let found = compaction-start c.half_at-from.ensures c.other_half_at-to.ensures c.guids-guid_count.ensures c.groups-group_count.ensures c.fields-field_count.ensures c.guids_allowed.ensures.0 c.groups_allowed.ensures.0 in
    compact-written c.requires found c.move_texts-first.ensures c.move_texts-second.ensures c.move_texts-end.ensures _ _ _ c.half-other.ensures c.put32.ensures c.put32-2.ensures
