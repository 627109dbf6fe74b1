-- n more bytes fit, or they fit once the path is released.
use Rattle.std.proofs.Common.{arith}
use Rattle.vrf_cache.proofs.Laws.Groups.Steps.{still, release-path, gone}
use Rattle.vrf_cache.proofs.groups.release_path.Goals as goal

pub returns-then-held-n : goal.returns-then-held-n
returns-then-held-n c = still c.requires (omega arith)

pub set_group-requires : goal.set_group-requires
set_group-requires c = release-path c.requires c.group_index-index.ensures

pub returns : goal.returns
returns c = gone c.requires c.group_index-index.ensures c.set_group.ensures
