-- Each contract of this crate determines the answer and the buffer. `decimal_len` and `put_decimal` have equations as contracts; this
-- theorem is for the others.
use Rattle.std.specs.Prelude.{◌≡◌, List, ℕ, Result, Ok, Err}
use Rattle.std.proofs.Common.{sym, ap, ◌∙◌}
use Rattle.vrf_bitio.proofs.Laws.Cases.{clash}
use Rattle.vrf_bitio.proofs.Laws.Determined.{same-details}
use Rattle.vrf_bitio.specs.declared.Refusal.{Refusal}
use Rattle.vrf_names.specs.Names.{Name}
use Rattle.vrf_names.specs.Answers.{NameAnswer, RenderedAnswer}

name-determined : (x : Name) (r q : Result ℕ Refusal) → NameAnswer x r → NameAnswer x q → r ≡ q
name-determined x (Ok n) (Ok m) (t, (a, n')) (u, (b, m')) = ap Ok (cc (a, b, n', m'))
name-determined x (Err r) (Err q) a b = ap Err (same-details r q (cc (a, b)) (cc (a, b)) (cc (a, b)))
name-determined x (Ok n) (Err q) a b = clash (cc (a.1.0, b))
name-determined x (Err r) (Ok n) a b = clash (cc (a, b.1.0))

-- `render_index`, `render_fname`
pub rendered-determined : {x : Name} {before after after' : List ℕ} {r q : Result ℕ Refusal} → RenderedAnswer x before after r → RenderedAnswer x before after' q → (r ≡ q) × (after ≡ after')
rendered-determined {x} {r = r} {q} a b = (name-determined x r q a.answer b.answer, a.bytes ∙ sym b.bytes)
