-- The claims on the stem's three leaves, in turn.
use Rattle.vrf_path.specs.Toggle.{class_net_cache}
use Rattle.vrf_path.specs.Stems.{component, underscore_c}
use Rattle.vrf_store.specs.Inner.Stepped.{held}
use Rattle.vrf_cache.proofs.Laws.Resolve.{stem-in-turn, stem-leaves}
use Rattle.vrf_cache.proofs.resolve.try_cnc_leaf_candidates.Goals as goal

pub claim_of-requires : goal.claim_of-requires
unfolding component underscore_c class_net_cache
claim_of-requires c = (c.requires.0, stem-leaves c.args.stem.now c.requires.1 c.requires.2 c.class_base.ensures)

pub returns : goal.returns
unfolding component underscore_c class_net_cache
returns c = stem-in-turn (held c.args.m.now).groups c.args.stem.now c.claim_of.ensures
