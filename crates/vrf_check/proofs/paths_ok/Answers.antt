-- All texts have passed, so the walks can read the text of any group.
use Rattle.std.proofs.Common.{ℕ, ◌<◌, ◌&&◌, ◌∙◌, arith, rules, tests}
use Rattle.vrf_check.specs.Inner.Steps.{keys_pass, leaf_passes}
use Rattle.vrf_check.proofs.Laws.Steps.{groups-readable, groups-short, paths-steps}
use Rattle.vrf_check.proofs.paths_ok.Goals as goal

pub groups_by_path-paths-requires : goal.groups_by_path-paths-requires
groups_by_path-paths-requires c = rw c.groups-n.ensures (groups-readable c.args.m.now c.requires.0 c.requires.1)

pub each_below-requires : goal.each_below-requires
each_below-requires c =
    let p = c.groups_by_path-paths in
    let l = c.groups_by_leaf-leaves in
    let keys_short = groups-short c.args.m.now c.requires.0 c.requires.1 p.ensures.groups c.groups-n.ensures in
    let leaf_short = groups-short c.args.m.now c.requires.0 c.requires.1 l.ensures.chains.groups c.groups-n.ensures in
    let keys_in : (e : ℕ) → e < c.groups-n.result → e < p.result.groups.count = λ e h. omega (arith, p.ensures.groups.count) in
    let leaves_in : (e : ℕ) → e < c.groups-n.result → e < l.result.chains.groups.count = λ e h. omega (arith, l.ensures.chains.groups.count) in
    search (rules, keys_short, leaf_short, keys_in, leaves_in)

pub returns : goal.returns
returns c =
    let p = c.groups_by_path-paths in
    let l = c.groups_by_leaf-leaves in
    c.each_below.ensures (λ g. keys_pass p.result g && leaf_passes l.result g) (λ e r made. search (rules, tests)) ∙ paths-steps p.ensures l.ensures c.groups-n.ensures
