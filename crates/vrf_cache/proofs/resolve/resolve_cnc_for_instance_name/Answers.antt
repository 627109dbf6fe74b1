-- The first stem with a claim decides.
use Rattle.std.proofs.Common.{◌≡◌, ℕ, List, ◌∷◌, refl, sym, ap, subst, ◌∙◌}
use Rattle.std.specs.List.{All}
use Rattle.std.proofs.lemmas.List.Elements.{All-head, All-rest, All-same}
use Rattle.vrf_path.proofs.Laws.Left.{stems_left}
use Rattle.vrf_model.specs.Lookup.{first_claim, stems_leaves, resolve_cnc}
use Rattle.vrf_store.specs.Inner.Stepped.{held}
use Rattle.vrf_cache.proofs.Laws.Resolve.{Triable, stem-decides, stem-passes, no-stems, resolve-path, resolve-name, stems-triable}
use Rattle.vrf_cache.proofs.resolve.resolve_cnc_for_instance_name.Goals as goal

pub returns-then-has_path_separator : goal.returns-then-has_path_separator
returns-then-has_path_separator c = resolve-path c.args.name.now (held c.args.m.now).groups (cc)

pub loop-stem-init : goal.loop-stem-init
loop-stem-init c =
    let name = c.args.name.now in
    let groups = (held c.args.m.now).groups in
    let bare = sym c.has_path_separator.ensures ∙ c.if-has_path_separator.false in
    let all = ap stems_left c.into_iter-stem-iterator.ensures.into_iter_gives ∙ c.new-stem-items.ensures.all in
    subst (λ (l : List (List ℕ)). (resolve_cnc name groups ≡ first_claim groups (stems_leaves l)) × All Triable l) (sym all) (resolve-name name groups bare refl, stems-triable name bare c.requires.1)

pub try_cnc_leaf_candidates-c-requires : goal.try_cnc_leaf_candidates-c-requires
try_cnc_leaf_candidates-c-requires c =
    let next = c.in-Some.ensures.steps in
    let rest = stems_left c.next.new.self in
    let all = All-same Triable (c.in-Some.stem.now ∷ rest) (stems_left c.loop-stem.stem-iterator) (sym next) c.loop-stem.invariant.1 in
    let own = All-head Triable c.in-Some.stem.now rest all in
    (c.requires.0, own.0, own.1)

pub returns-then-decides : goal.returns-then-decides
returns-then-decides c =
    let groups = (held c.args.m.now).groups in
    let next = c.in-Some.ensures.steps in
    let left = c.loop-stem.invariant.0 ∙ ap (λ (l : List (List ℕ)). first_claim groups (stems_leaves l)) next in
    c.claimed.ensures ∙ sym (stem-decides groups c.in-Some.stem.now (stems_left c.next.new.self) left c.try_cnc_leaf_candidates-c.ensures (sym c.decides.ensures ∙ c.if-decides.true))

pub loop-stem-preserved : goal.loop-stem-preserved
loop-stem-preserved c =
    let groups = (held c.args.m.now).groups in
    let next = c.in-Some.ensures.steps in
    let rest = stems_left c.next.new.self in
    let left = c.loop-stem.invariant.0 ∙ ap (λ (l : List (List ℕ)). first_claim groups (stems_leaves l)) next in (
      stem-passes groups c.in-Some.stem.now rest left c.try_cnc_leaf_candidates-c.ensures (sym c.decides.ensures ∙ c.if-decides.false) refl,
      All-rest Triable c.in-Some.stem.now rest (stems_left c.loop-stem.stem-iterator) next c.loop-stem.invariant.1,
    )

pub returns : goal.returns
returns c =
    let groups = (held c.args.m.now).groups in
    let ended = c.in-None.ensures.steps.0 in
    sym (c.loop-stem.invariant.0 ∙ ap (λ (l : List (List ℕ)). first_claim groups (stems_leaves l)) ended ∙ no-stems groups)
