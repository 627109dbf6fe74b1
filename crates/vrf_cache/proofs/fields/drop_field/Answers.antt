-- The law about a dropped field.
use Rattle.vrf_cache.proofs.Laws.Fields.{dropped}
use Rattle.vrf_cache.proofs.fields.drop_field.Goals as goal

pub returns : goal.returns
returns c = dropped c.requires c.step.ensures
