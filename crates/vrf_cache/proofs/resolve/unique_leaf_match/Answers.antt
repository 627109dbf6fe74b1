-- The claims on the name's three leaves decide.
use Rattle.std.proofs.Common.{◌∙◌}
use Rattle.vrf_path.specs.Stems.{component, underscore_c}
use Rattle.vrf_store.specs.Inner.Stepped.{held}
use Rattle.vrf_cache.proofs.Laws.Resolve.{match-path, match-name, name-in-turn, name-leaves}
use Rattle.vrf_cache.proofs.resolve.unique_leaf_match.Goals as goal

pub returns-then-has_path_separator : goal.returns-then-has_path_separator
returns-then-has_path_separator c = match-path c.args.name.now (held c.args.m.now).groups (cc)

pub claim_of-requires : goal.claim_of-requires
unfolding component underscore_c
claim_of-requires c = (c.requires.0, name-leaves c.args.name.now (cc) c.requires.1 c.leaf_base.ensures)

pub returns : goal.returns
unfolding component underscore_c
returns c =
    let name = c.args.name.now in
    let groups = (held c.args.m.now).groups in
    c.claimed.ensures ∙ match-name name groups (cc) (name-in-turn groups name c.claim_of.ensures)
