-- Laws about the header: what writing it changes, and that other writes do not change it.
use Rattle.std.specs.Prelude.{◌≡◌, ℕ, ◌+◌, ◌*◌, ◌<◌, ◌≤◌, List, length}
use Rattle.std.proofs.Common.{sym, ap, ◌∙◌, zero-add, arith}
use Rattle.vrf_bitio.specs.Pasted.{pasted}
use Rattle.vrf_words.specs.Words.{word, part}
use Rattle.vrf_words.specs.Inner.Words.{set_word}
use Rattle.vrf_words.proofs.Laws.Words.{word-part, part-pasted-below, part-set_word-above}
use Rattle.vrf_store.specs.Layout
use Rattle.vrf_store.specs.Store.{Header, allowances_of, header_of, long, counters_of, half_at, words, store_by}
use Rattle.vrf_store.proofs.Laws.Memory.Regions.{half-above, tables-kept}

-- ---- the header is unchanged

module _ (m m' : List ℕ) (same : part m' 0 128 ≡ part m 0 128) where
  kept : (j : ℕ) → j < 32 → word m' j ≡ word m j
  kept j h =
      let w : (s : List ℕ) → word (part s 0 128) j ≡ word s j = λ s. simp zero-add at (word-part s 0 128 j (omega (arith, h))) in
      sym (w m') ∙ ap (λ (s : List ℕ). word s j) same ∙ w m

  pub header-same : header_of m' ≡ header_of m
  unfolding header_of allowances_of
  header-same = rw (kept 0 (omega arith), kept 1 (omega arith), kept 2 (omega arith), kept 3 (omega arith), kept 4 (omega arith), kept 5 (omega arith), kept 6 (omega arith), kept 7 (omega arith), kept 8 (omega arith), kept 9 (omega arith), kept 10 (omega arith))

  pub counters-same : counters_of m' ≡ counters_of m
  unfolding counters_of long
  counters-same = rw (kept 11 (omega arith), kept 12 (omega arith), kept 13 (omega arith), kept 14 (omega arith), kept 15 (omega arith), kept 16 (omega arith), kept 17 (omega arith), kept 18 (omega arith), kept 19 (omega arith), kept 20 (omega arith))

-- a write after the header
module _ (m r : List ℕ) (at : ℕ) (following : 128 ≤ at) (fits : at + length r ≤ length m) where
  header-part : part (pasted m at r) 0 128 ≡ part m 0 128
  header-part = part-pasted-below m r at 0 128 following fits

  pub header-kept : header_of (pasted m at r) ≡ header_of m
  header-kept = header-same m (pasted m at r) header-part

  pub counters-kept : counters_of (pasted m at r) ≡ counters_of m
  counters-kept = counters-same m (pasted m at r) header-part

-- ---- writing a word of the header

module _ (h : Header) (m : List ℕ) (j v : ℕ) (low : j < 32) (fits : 128 ≤ length m) where
  over : (i n : ℕ) → 32 ≤ i → words (set_word m j v) i n ≡ words m i n
  unfolding words
  over i n k = part-set_word-above m j v (4 * i) (4 * n) (omega (arith, k, low)) (omega (arith, low, fits))

  -- it changes no part after the header
  pub parts-kept : store_by h (set_word m j v) ≡ store_by h m
  parts-kept =
      let text : part (set_word m j v) (half_at h.allowed h.half) h.allowed.text ≡ part m (half_at h.allowed h.half) h.allowed.text =
      part-set_word-above m j v (half_at h.allowed h.half) h.allowed.text (omega (arith, low, half-above h.allowed h.half)) (omega (arith, low, fits)) in
      tables-kept h m (set_word m j v) (λ i n k _. over i n k) ∙ rw (over (Layout.literals_at h.allowed) h.allowed.literals (omega arith), text)
