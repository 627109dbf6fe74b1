-- A separator is found where the definition finds one.
use Rattle.std.proofs.Common.{refl, ◌∙◌, ◌||◌, rules, tests}
use Rattle.std.specs.List.{list_any}
use Rattle.std.proofs.lemmas.Iterator.{YieldsList-from_slice}
use Rattle.std.proofs.lemmas.Iterator.Search.{any_from_yields_List}
use Rattle.std.proofs.lemmas.List.Recursion.{same_from_clauses}
use Rattle.vrf_path.specs.Keys.{is_separator, has_separator}
use Rattle.vrf_path.proofs.few_separators.Goals as goal

pub returns : goal.returns
unfolding has_separator
returns c =
    let text = c.args.text.now in
    any_from_yields_List is_separator _ _ _ c.any.ensures.ran (YieldsList-from_slice text cc) (λ x b q k. search (rules, tests))
    ∙ same_from_clauses (list_any is_separator) has_separator (λ b r. is_separator b || r) refl (λ _ _. refl) (λ _ _. refl) text
