-- Laws for `literal_at` and `put_literal`: writing a literal changes neither the book nor the check.
use Rattle.std.specs.Prelude.{◌≡◌, ℕ, ◌+◌, ◌*◌, ◌<◌, ◌≤◌, List, length}
use Rattle.std.proofs.Math.Path.{refl}
use Rattle.std.proofs.Common.{sym, ap, subst, ◌∙◌, arith}
use Rattle.vrf_bitio.specs.Number.{low_bytes}
use Rattle.vrf_bitio.proofs.Laws.Number.{low_bytes-length}
use Rattle.vrf_words.specs.Words.{part}
use Rattle.vrf_words.specs.Inner.Words.{set_word}
use Rattle.vrf_words.proofs.Laws.Words.{part-set_word-below, part-set_word-above, part-set_word-in}
use Rattle.vrf_store.specs.Layout
use Rattle.vrf_store.specs.Store.{Header, Store, allowances_of, header_of, half_at, words, store_by, store_of, guid_at, field_at, slot_by, group_by, content_of}
use Rattle.vrf_store.specs.Check.{guid_ok, key_ok, leaf_ok, group_ok, slot_ok, field_ok, text_sum, store_ok}
use Rattle.vrf_store.specs.Inner.Valid.{ValidHeader}
use Rattle.vrf_store.specs.Inner.WellFormed.{Enough, WellFormed}
use Rattle.vrf_store.specs.Inner.Memory.{WrittenStore}
use Rattle.vrf_store.specs.Inner.Literals.{LiteralPut}
use Rattle.vrf_store.proofs.Laws.Memory.Regions.{with_literals, half-above, tables-kept}
use Rattle.vrf_store.proofs.Laws.Memory.Written.{unwritten, following}
use Rattle.vrf_store.proofs.Laws.Check.Valid.{ok-valid, valid-ok, words-length, need-shaped}

-- one word for each literal allowed
pub literals-long : {m : List ℕ} → WellFormed m → length (store_of m).literals ≡ 4 * (allowances_of m).literals
literals-long {m} g = words-length m (Layout.literals_at (allowances_of m)) (allowances_of m).literals (omega (arith, g.enough))

-- neither the check nor the book depends on the literals
module _ (s : Store) (l : List ℕ) where
  same_check : store_ok (with_literals s l) ≡ store_ok s
  unfolding store_ok guid_ok group_ok key_ok leaf_ok field_ok slot_ok text_sum
  same_check = refl

  same-content : content_of (with_literals s l) ≡ content_of s
  unfolding content_of guid_at group_by slot_by field_at
  same-content = refl

-- ---- writing a literal

module _ (h : Header) (m : List ℕ) (enough : Layout.need h.allowed ≤ length m) (i p : ℕ) (low : i < h.allowed.literals) where
  abbrev first : ℕ
  first = Layout.literals_at h.allowed

  fits : 4 * (first + i) + 4 ≤ length m
  fits = omega (arith, enough, low)

  before : (j n : ℕ) → j + n ≤ first → words (set_word m (first + i) p) j n ≡ words m j n
  unfolding words
  before j n k = part-set_word-below m (first + i) p (4 * j) (4 * n) (omega (arith, k)) fits

  own : words (set_word m (first + i) p) first h.allowed.literals ≡ set_word (words m first h.allowed.literals) i p
  unfolding words
  own = part-set_word-in m first (4 * h.allowed.literals) i p (omega (arith, low)) (omega (arith, enough))

  texts : part (set_word m (first + i) p) (half_at h.allowed h.half) h.allowed.text ≡ part m (half_at h.allowed h.half) h.allowed.text
  texts = part-set_word-above m (first + i) p (half_at h.allowed h.half) h.allowed.text (omega (arith, low, half-above h.allowed h.half)) fits

  put-literal : store_by h (set_word m (first + i) p) ≡ with_literals (store_by h m) (set_word (store_by h m).literals i p)
  put-literal = tables-kept h m (set_word m (first + i) p) (λ j n _ k. before j n k) ∙ rw (own, texts)

-- the memory after `put_literal`
module _ {m : List ℕ} (g : WellFormed m) (i p : ℕ) (low : i < (allowances_of m).literals) where
  abbrev z : List ℕ
  z = set_word m (Layout.literals_at (allowances_of m) + i) p

  abbrev s : Store
  s = with_literals (store_of m) (set_word (store_of m).literals i p)

  written : WrittenStore m z s
  unfolding set_word
  written =
      let space : 4 * (Layout.literals_at (allowances_of m) + i) + length (low_bytes 4 p) ≤ length m = omega (arith, low_bytes-length 4 p, fits (header_of m) m g.enough i p low) in
      following (unwritten m) (4 * (Layout.literals_at (allowances_of m) + i)) (low_bytes 4 p) (λ x. with_literals x (set_word x.literals i p)) (omega arith) space (put-literal (header_of m) m g.enough i p low)

  still : WellFormed z
  still =
      let enough : Enough z = omega (arith, ap Layout.need written.allowed, written.long, g.enough) in
      let header : ValidHeader (header_of z) = subst (λ (x : Store). ValidHeader x.header) (sym written.store) g.valid.header in
      record { enough = enough; valid = ok-valid (store_of z) (need-shaped (header_of z) z enough) header (ap store_ok written.store ∙ same_check (store_of m) s.literals ∙ valid-ok g.valid) }

  pub literal-put : {at : ℕ} {m' : List ℕ} → at ≡ Layout.literals_at (allowances_of m) → m' ≡ set_word m (at + i) p → LiteralPut m m' i p
  literal-put a e = rw (e, a) (record {
    good = still;
    content = ap content_of written.store ∙ same-content (store_of m) s.literals;
    counters = written.counters;
    long = written.long;
    literals = ap (λ (x : Store). x.literals) written.store;
  })
