-- The words of a memory after writes in its header. For fixed word numbers, the header and the counters are then computed.
use Rattle.std.specs.Prelude.{◌≡◌, ℕ, ◌+◌, ◌-◌, ◌*◌, ◌^◌, ◌<◌, ◌≤◌, cond, List, length, replicate, nat_le, nat_lt, refl}
use Rattle.std.proofs.Common.{sym, ◌∙◌, arith, leb-true, leb-false, ltb-true, ltb-false}
use Rattle.std.proofs.Math.Path.{ap, fun_ext}
use Rattle.std.proofs.lemmas.List.{length-replicate}
use Rattle.vrf_bitio.specs.Pasted.{pasted}
use Rattle.vrf_bitio.proofs.Laws.Pasted.{pasted_length}
use Rattle.vrf_bitio.proofs.Laws.Cases.{by_cond}
use Rattle.vrf_words.specs.Words.{word}
use Rattle.vrf_words.specs.Inner.Words.{set_word}
use Rattle.vrf_words.proofs.Laws.Words.{length-set_word, word-zeros, word-pasted-in, word-pasted-below, word-pasted-above}
use Rattle.vrf_store.specs.Store.{header_of, long, counters_of}
use Rattle.vrf_store.proofs.Laws.Memory.Written.{header_by, counters_by, word_to, unwritten, word-to}

-- the words f with 0 in the n words from word i on
abbrev pub zero_to : (ℕ → ℕ) → ℕ → ℕ → ℕ → ℕ
zero_to f i n j = cond (nat_le i j) (cond (nat_lt j (i + n)) 0 (f j)) (f j)

-- a memory of n bytes whose words are f
pub record Has (n : ℕ) (m : List ℕ) (f : ℕ → ℕ) : Type 0 where
  pub long : length m ≡ n
  pub words : word m ≡ f

pub has-now : (m : List ℕ) → Has (length m) m (word m)
has-now m = record { long = refl; words = refl }

module _ {n : ℕ} {m : List ℕ} {f : ℕ → ℕ} (h : Has n m f) where
  pub has-header : header_of m ≡ header_by f
  has-header = ap header_by h.words

  pub has-counters : counters_of m ≡ counters_by f
  unfolding counters_of long
  has-counters = ap counters_by h.words

  module _ {z : List ℕ} (space : 128 ≤ n) where
    pub has_word : (j v : ℕ) → j < 32 → v < 2 ^ 32 → z ≡ set_word m j v → Has n z (word_to f j v)
    has_word j v low small e =
        let fits : 128 ≤ length m = omega (arith, space, h.long) in
        record {
          long = ap length e ∙ length-set_word m j v (omega (arith, low, fits)) ∙ h.long;
          words = ap word e ∙ word-to (unwritten m) v small fits j low ∙ ap (λ (g : ℕ → ℕ). word_to g j v) h.words;
        }

  module _ {z : List ℕ} (i k : ℕ) (fits : 4 * (i + k) ≤ n) (e : z ≡ pasted m (4 * i) (replicate (4 * k) 0)) where
    size : length {A = ℕ} (replicate (4 * k) 0) ≡ 4 * k
    size = length-replicate (4 * k) 0

    space : 4 * i + length {A = ℕ} (replicate (4 * k) 0) ≤ length m
    space = omega (arith, size, fits, h.long)

    zeroed : (j : ℕ) → word (pasted m (4 * i) (replicate (4 * k) 0)) j ≡ zero_to (word m) i k j
    zeroed j =
        by_cond (λ (x : ℕ). word (pasted m (4 * i) (replicate (4 * k) 0)) j ≡ x) (nat_le i j)
        (λ up. by_cond (λ (x : ℕ). word (pasted m (4 * i) (replicate (4 * k) 0)) j ≡ x) (nat_lt j (i + k))
        (λ low.
        let q : i + (j - i) ≡ j = omega (arith, leb-true i j up) in
        ap (word (pasted m (4 * i) (replicate (4 * k) 0))) (sym q) ∙ word-pasted-in m (replicate (4 * k) 0) i (j - i) (omega (arith, leb-true i j up, ltb-true j (i + k) low, size)) space ∙ word-zeros (4 * k) (j - i))
        (λ high. word-pasted-above m (replicate (4 * k) 0) (4 * i) j (omega (arith, ltb-false j (i + k) high, size)) space))
        (λ low. word-pasted-below m (replicate (4 * k) 0) (4 * i) j (omega (arith, leb-false i j low)) space)

    pub has-zeros : Has n z (zero_to f i k)
    has-zeros = record {
      long = ap length e ∙ pasted_length (replicate (4 * k) 0) m (4 * i) space ∙ h.long;
      words = ap word e ∙ fun_ext zeroed ∙ ap (λ (g : ℕ → ℕ). zero_to g i k) h.words;
    }
