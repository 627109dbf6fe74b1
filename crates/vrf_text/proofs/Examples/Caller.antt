-- Callers' texts, computed: refusal 40, then refusal 41. A final zero is not dropped.
use Rattle.std.specs.Prelude.{[], ◌∷◌, ◌++◌, ◌≡◌, refl, replicate}
use Rattle.vrf_text.specs.Utf8.{lead, within, utf8_from, utf8}
use Rattle.vrf_text.specs.Text.{accepted, refusal, caller_text}

pub record Callers : Type 0 where
  pub empty : caller_text [] ≡ accepted
  pub longest : caller_text (replicate 4096 0x41) ≡ accepted
  pub bad : caller_text (0xFF ∷ []) ≡ refusal 40 0 0
  pub long : caller_text (replicate 4097 0x41) ≡ refusal 41 4097 0
  pub zero-kept : caller_text (replicate 4096 0x41 ++ (0x00 ∷ [])) ≡ refusal 41 4097 0
  pub long-and-bad : caller_text (replicate 4097 0xFF) ≡ refusal 40 0 0

pub callers : Callers
unfolding lead within utf8_from utf8 caller_text
callers = record { empty = refl; longest = refl; bad = refl; long = refl; zero-kept = refl; long-and-bad = refl }
