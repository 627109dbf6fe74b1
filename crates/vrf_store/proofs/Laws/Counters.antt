-- Laws about stepping counters: only the counters change, and steps add up. The changes of `vrf_cache` use them.
use Rattle.std.specs.Prelude.{◌≡◌, ℕ, ◌+◌, ◌*◌, ◌/◌, ◌%◌, ◌^◌, ◌<◌, ◌≤◌, List, length}
use Rattle.std.proofs.Math.Path.{refl}
use Rattle.std.proofs.Common.{sym, ap, subst, ◌∙◌, arith}
use Rattle.vrf_bitio.specs.Bits.{Bytes}
use Rattle.vrf_words.specs.Words.{word}
use Rattle.vrf_words.specs.Inner.Words.{set_word}
use Rattle.vrf_words.proofs.Laws.Words.{length-set_word, word_bound}
use Rattle.vrf_model.specs.Book.{Counters, Increments, add_increments, stepped}
use Rattle.vrf_model.specs.Setting.{schema_step, guid_step, dropped_step, replaced_step, renamed_step, clear_step}
use Rattle.vrf_store.specs.Layout
use Rattle.vrf_store.specs.Store.{Header, Store, header_of, long, counters_of, store_by, content_of}
use Rattle.vrf_store.specs.Inner.Valid.{Valid}
use Rattle.vrf_store.specs.Inner.WellFormed.{WellFormed}
use Rattle.vrf_store.specs.Inner.Stepped.{held}
use Rattle.vrf_store.specs.declared.counters.Counter.{Counter}
use Rattle.vrf_store.specs.declared.counters.Counter.TheVariants.{Schema, Guid, Dropped, Replaced, Renamed}
use Rattle.vrf_store.specs.Inner.Counters.{CountersStepped, replaced_alone, step_of, word_of}
use Rattle.vrf_store.proofs.Laws.Memory.Header.{parts-kept}
use Rattle.vrf_store.proofs.Laws.Memory.Written.{header_by, counters_by, word_to}
use Rattle.vrf_store.proofs.Laws.Memory.HeaderWords.{Has, has-now, has-header, has-counters, has_word}

-- the memory with v as the 64-bit number at word i
abbrev pub long_to : List ℕ → ℕ → ℕ → List ℕ
long_to m i v = set_word (set_word m i (v % 2 ^ 32)) (i + 1) (v / 2 ^ 32)

-- one more than the 64-bit number at word i, modulo 2 ^ 64
abbrev pub up : List ℕ → ℕ → ℕ
up m i = (long m i + 1) % 2 ^ 64

-- ---- what a step leaves, and several steps

module _ {m m' : List ℕ} {t : Increments} (k : CountersStepped m m' t) where
  pub counted-held : held m' ≡ held m
  counted-held = ap content_of k.store

  pub counted-good : WellFormed m → WellFormed m'
  counted-good g = record {
    enough = omega (arith, ap (λ (s : Store). Layout.need s.header.allowed) k.store, k.long, g.enough);
    valid = subst (λ (s : Store). Valid s) (sym k.store) g.valid;
  }

-- two steps are one step by their sum
pub stepped-both : (c : Counters) (s t : Increments) → stepped (stepped c s) t ≡ stepped c (add_increments s t)
unfolding stepped add_increments
stepped-both c s t = rw (both c.schema s.schema t.schema, both c.guid s.guid t.guid, both c.dropped s.dropped t.dropped, both c.replaced s.replaced t.replaced, both c.renamed s.renamed t.renamed)
  where
    both : (x y z : ℕ) → ((x + y) % 2 ^ 64 + z) % 2 ^ 64 ≡ (x + (y + z)) % 2 ^ 64
    both x y z = omega arith

counted-both : {m y z : List ℕ} {s t : Increments} → CountersStepped m y s → CountersStepped y z t → CountersStepped m z (add_increments s t)
counted-both {m} {s = s} {t = t} a b = record {
  store = b.store ∙ a.store;
  counters = b.counters ∙ ap (λ (c : Counters). stepped c t) a.counters ∙ stepped-both (counters_of m) s t;
  long = b.long ∙ a.long;
}

-- a group replaced: steps the schema generation and the replaced counter
pub counted-replacing : {m y z : List ℕ} → CountersStepped m y schema_step → CountersStepped y z replaced_alone → CountersStepped m z replaced_step
unfolding add_increments schema_step replaced_alone replaced_step
counted-replacing a b = counted-both a b

-- a book cleared: steps both generations
pub counted-clearing : {m y z : List ℕ} → CountersStepped m y schema_step → CountersStepped y z guid_step → CountersStepped m z clear_step
unfolding add_increments schema_step guid_step clear_step
counted-clearing a b = counted-both a b

-- ---- adding one to a counter

module _ (m : List ℕ) (b : Bytes m) (space : 128 ≤ length m) where
  -- a counter has 64 bits, so adding 0 does not change it
  pub stays : (i : ℕ) → long m i ≡ (long m i + 0) % 2 ^ 64
  unfolding long
  stays i = omega (arith, word_bound m i b, word_bound m (i + 1) b)

  module _ {m' : List ℕ} (i v : ℕ) (low : i < 31) (small : v < 2 ^ 64) (e : m' ≡ long_to m i v) where
    has : Has (length m) m' (word_to (word_to (word m) i (v % 2 ^ 32)) (i + 1) (v / 2 ^ 32))
    has = has_word (has_word (has-now m) space i (v % 2 ^ 32) (omega (arith, low)) (omega arith) refl) space (i + 1) (v / 2 ^ 32) (omega (arith, low)) (omega (arith, small)) e

    -- the two words written are words of no other number of the header
    counted : (t : Increments) → header_by (word_to (word_to (word m) i (v % 2 ^ 32)) (i + 1) (v / 2 ^ 32)) ≡ header_of m → counters_by (word_to (word_to (word m) i (v % 2 ^ 32)) (i + 1) (v / 2 ^ 32)) ≡ stepped (counters_of m) t → CountersStepped m m' t
    counted t h c =
        let first : 128 ≤ length (set_word m i (v % 2 ^ 32)) = omega (arith, space, length-set_word m i (v % 2 ^ 32) (omega (arith, space, low))) in
        record {
          store =
              ap (λ (z : List ℕ). store_by (header_of m') z) e
              ∙ parts-kept (header_of m') (set_word m i (v % 2 ^ 32)) (i + 1) (v / 2 ^ 32) (omega (arith, low)) first
              ∙ parts-kept (header_of m') m i (v % 2 ^ 32) (omega (arith, low)) space
              ∙ ap (λ (x : Header). store_by x m) (has-header has ∙ h);
          counters = has-counters has ∙ c;
          long = has.long;
        }

  -- the two words of a 64-bit number make it again
  whole : (v : ℕ) → v % 2 ^ 32 + 2 ^ 32 * (v / 2 ^ 32) ≡ v
  whole v = omega arith

  fits : (i : ℕ) → up m i < 2 ^ 64
  fits i = omega arith

  module _ {m' : List ℕ} where
    -- a step of one counter leaves the other four
    pub counted-one : (k : Counter) → m' ≡ long_to m (word_of k) (up m (word_of k)) → CountersStepped m m' (step_of k)
    unfolding stepped schema_step guid_step dropped_step replaced_alone renamed_step counters_of long
    counted-one Schema e = counted 11 (up m 11) (omega arith) (fits 11) e schema_step refl (cc (whole (up m 11), stays 13, stays 15, stays 17, stays 19))
    counted-one Guid e = counted 13 (up m 13) (omega arith) (fits 13) e guid_step refl (cc (whole (up m 13), stays 11, stays 15, stays 17, stays 19))
    counted-one Dropped e = counted 15 (up m 15) (omega arith) (fits 15) e dropped_step refl (cc (whole (up m 15), stays 11, stays 13, stays 17, stays 19))
    counted-one Replaced e = counted 17 (up m 17) (omega arith) (fits 17) e replaced_alone refl (cc (whole (up m 17), stays 11, stays 13, stays 15, stays 19))
    counted-one Renamed e = counted 19 (up m 19) (omega arith) (fits 19) e (renamed_step 1) refl (cc (whole (up m 19), stays 11, stays 13, stays 15, stays 17))
