-- What the answers of `put_decimal`, `render_index` and `render_fname` mean: the answered length or refusal, and the buffer afterwards.
use Rattle.std.specs.Prelude.{◌≡◌, cond, List, ℕ, ◌+◌, ltb, length, Result, Ok, Err}
use Rattle.vrf_bitio.specs.Pasted.{pasted}
use Rattle.vrf_bitio.specs.Reasons.{number}
use Rattle.vrf_bitio.specs.declared.Refusal.{Refusal}
use Rattle.vrf_names.specs.Names.{Name, named, refused}

-- a buffer after t is written to it from place `at` on; nothing is written if t does not fit
unfoldable pub put_into : List ℕ → ℕ → List ℕ → List ℕ
put_into before at t = cond (ltb (length before) (at + length t)) before (pasted before at t)

-- a name is answered as its length
abbrev pub NameAnswer : Name → Result ℕ Refusal → Type 0
NameAnswer x (Ok n) = (t : List ℕ) × ((x ≡ named t) × (n ≡ length t))
NameAnswer x (Err e) = x ≡ refused (number e.reason) e.a e.b

-- the buffer begins with the name and is unchanged after it; a refusal leaves the whole buffer unchanged
abbrev pub buffer_after : Name → List ℕ → List ℕ
buffer_after (named t) before = pasted before 0 t
buffer_after (refused n a b) before = before

pub record RenderedAnswer (x : Name) (before after : List ℕ) (r : Result ℕ Refusal) : Type 0 where
  pub answer : NameAnswer x r
  pub bytes : after ≡ buffer_after x before
