-- The first stem is the whole name.
use Rattle.std.proofs.Common.{List, ◌∷◌, ℕ, length, sym, ap, arith}
use Rattle.std.proofs.Math.Seq.{take-length}
use Rattle.vrf_path.specs.Stems.{stems}
use Rattle.vrf_path.specs.Answers.{stems_after}
use Rattle.vrf_path.specs.declared.Phase.TheVariants.{Underscore}
use Rattle.vrf_path.proofs.Laws.Stems.{rule-whole}
use Rattle.vrf_path.proofs.first_stem.Goals as goal

pub returns : goal.returns
unfolding stems
returns c =
    let name = c.args.name.now in
    let whole = ap (λ (t : List ℕ). t ∷ stems_after name (length name) Underscore) (take-length name) in
    record { stems = sym whole; within = omega arith; rule = rule-whole name _ (omega arith) }
