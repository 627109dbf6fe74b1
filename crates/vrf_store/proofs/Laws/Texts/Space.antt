-- The law for `make_space`: once the texts are moved, n more bytes fit.
use Rattle.std.proofs.Common.{sym, ap, ap₂, ◌∙◌, arith}
use Rattle.std.specs.Prelude.{ℕ, ◌+◌, ◌≤◌, List}
use Rattle.vrf_store.specs.Store.{Header, allowances_of, header_of}
use Rattle.vrf_store.specs.Inner.Texts.{with_text_use, Compacted, SpaceMade}

pub space-made : {m m' : List ℕ} {n : ℕ} → Compacted m m' → (header_of m).held + n ≤ (allowances_of m).text → SpaceMade m m' n
space-made {m} {m'} {n} c h =
    let used = ap (λ (z : Header). z.used) c.header in
    let half = ap (λ (z : Header). z.half) c.header in
    let text = ap (λ (z : Header). z.allowed.text) c.header in
    record { stepped = c.stepped; header = c.header ∙ ap₂ (with_text_use (header_of m)) (sym used) (sym half); space = omega (arith, used, text, h); keys = c.keys }
