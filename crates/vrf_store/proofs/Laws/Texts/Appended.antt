-- Laws for `append_text`: a text written after the bytes used changes no book.
use Rattle.std.specs.Prelude.{◌≡◌, ℕ, ◌+◌, ◌≤◌, List, length, refl}
use Rattle.std.proofs.Common.{ap, ◌∙◌, arith}
use Rattle.vrf_bitio.specs.Pasted.{pasted}
use Rattle.vrf_words.specs.Words.{part}
use Rattle.vrf_words.specs.Inner.Words.{set_word}
use Rattle.vrf_words.proofs.Laws.Words.{part-pasted-same}
use Rattle.vrf_store.specs.Store.{Store, allowances_of, header_of, half_at, store_of}
use Rattle.vrf_store.specs.Inner.WellFormed.{WellFormed}
use Rattle.vrf_store.specs.Inner.Memory.{WrittenStore}
use Rattle.vrf_store.specs.Inner.Texts.{with_text, Appended}
use Rattle.vrf_store.proofs.Laws.Memory.Regions.{with_texts, half-above, half-within, put-texts}
use Rattle.vrf_store.proofs.Laws.Memory.Written.{unwritten, following, wrote-used}
use Rattle.vrf_store.proofs.Laws.Texts.Same.{same-grown, moved-texts-stepped}

module _ (m t : List ℕ) (good : WellFormed m) (fits : (header_of m).used + length t ≤ (allowances_of m).text) where
  abbrev at : ℕ
  at = half_at (allowances_of m) (header_of m).half + (header_of m).used

  -- first the text is written, then the number of bytes used
  abbrev m' : List ℕ
  m' = set_word (pasted m at t) 9 ((header_of m).used + length t)

  inside : at + length t ≤ length m
  inside = omega (arith, half-within (allowances_of m) (header_of m).half, good.enough)

  following-header : 128 ≤ at
  following-header = omega (arith, half-above (allowances_of m) (header_of m).half)

  written : WrittenStore m m' (with_text (store_of m) t)
  written =
      wrote-used
      (following (unwritten m) at t (λ s. with_texts s (pasted s.texts (header_of m).used t)) following-header inside (put-texts (header_of m) m t good.enough (header_of m).used fits))
      ((header_of m).used + length t) (omega (arith, fits, good.valid.header.tops.text)) (omega (arith, inside, following-header))

  texts-long : (header_of m).used + length t ≤ length (store_of m).texts
  texts-long = omega (arith, fits, good.valid.shaped.texts)

  -- each table keeps its texts
  appended : Appended m t m' (record { at = (header_of m).used; len = length t })
  appended = record {
    stepped = moved-texts-stepped good ((header_of m).used + length t) (header_of m).half
        (same-grown t texts-long good.valid.guid_table) (same-grown t texts-long good.valid.group_table) (same-grown t texts-long good.valid.field_table)
        fits good.valid.header.half written;
    place = refl;
    long = refl;
    used = ap (λ (s : Store). s.header.used) written.store;
    store = written.store;
    text = ap (λ (s : Store). part s.texts (header_of m).used (length t)) written.store ∙ part-pasted-same (store_of m).texts t (header_of m).used texts-long;
  }

-- the memory after both writes
pub append-written : (m t m₁ m₂ : List ℕ) (a half : ℕ) → WellFormed m × ((header_of m).used + length t ≤ (allowances_of m).text) → a ≡ (header_of m).used → half ≡ half_at (allowances_of m) (header_of m).half → m₁ ≡ pasted m (half + a) t → m₂ ≡ set_word m₁ 9 (a + length t) → Appended m t m₂ (record { at = a; len = length t })
append-written m t m₁ m₂ a half pre p q e₁ e₂ = rw (e₂, e₁, p, q) (appended m t pre.0 pre.1)
