-- After `release_path` the path fits.
use Rattle.vrf_cache.proofs.Laws.Groups.Steps.{given}
use Rattle.vrf_cache.proofs.groups.put_path.Goals as goal

pub returns : goal.returns
returns c = given c.release_path.ensures c.keep_text.ensures
