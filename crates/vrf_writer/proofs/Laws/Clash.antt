-- What the loops of the search for the first clash maintain, and what follows when they end. The proofs of `src/clash.rt` use these laws.
use Rattle.std.specs.Prelude.{◌≡◌, ℕ, zero, suc, ◌+◌, ◌-◌, ◌*◌, ◌/◌, ◌%◌, ◌<◌, ◌≤◌, Bool, true, false, ◌||◌, ◌≢◌, ◌⊎◌, List, [], length, refl, Some, None, MatchOption}
use Rattle.std.specs.Prelude.{Option as Found}
use Rattle.std.proofs.Math.Path.{sym, ap}
use Rattle.std.proofs.Common.{◌∙◌, inl, inr, ⊎_elim, arith}
use Rattle.std.proofs.Math.Bool.{or-true}
use Rattle.std.proofs.lemmas.Bool.{false_from_ne_true, or_parts}
use Rattle.std.proofs.Math.Option.{Option, some, none}
use Rattle.std.proofs.Math.Nat.{add-zero}
use Prim.Native.Nat.{min}
use Rattle.vrf_bitio.proofs.Laws.Cases.{by_order, by-test, clash}
use Rattle.vrf_path.specs.Text.{same}
use Rattle.vrf_path.specs.Keys.{has_key, key_is, default_alias, core_alias}
use Rattle.vrf_path.proofs.Laws.Text.{same_true, same_refl}
use Rattle.vrf_path.proofs.Laws.Keys.{default-length, core-length, has-by-parts, has-cases}
use Rattle.vrf_words.specs.Words.{word}
use Rattle.vrf_model.specs.Book.{Group}
use Rattle.vrf_model.specs.Lookup
use Rattle.vrf_model.specs.Lookup.{place_or}
use Rattle.vrf_model.specs.Writer.{first_clash}
use Rattle.vrf_model.specs.Clash.{Clash}
use Rattle.vrf_model.proofs.Laws.Places.{place_or-at}
use Rattle.vrf_model.proofs.Laws.Clash.{first-clash, no-clash}
use Rattle.vrf_table.specs.Chain.{walk, last_below}
use Rattle.vrf_table.specs.Table.{text}
use Rattle.vrf_table.specs.TextIndex.{path_hit, text_start, key_numbered}
use Rattle.vrf_table.proofs.Laws.Chain.{by_equal, walk_at, walk-past, walk-skip, walk-passes, last_below-reach}
use Rattle.vrf_store.specs.UpTo.{up_to}
use Rattle.vrf_store.specs.Layout
use Rattle.vrf_store.specs.Store.{Store, group_by, content_of}
use Rattle.vrf_store.specs.Inner.Valid.{Valid}
use Rattle.vrf_store.proofs.Laws.Memory.UpTo.{length-up_to, get_d-up_to}
use Rattle.vrf_store.proofs.Laws.Lookups.{path-entry}
use Rattle.vrf_writer.specs.Inner.Groups.{group_at}
use Rattle.vrf_writer.specs.Inner.Clash.{path_at, is_at, is_key_at, Keyed, Narrowed, FirstAfter, NoneAfter}
use Rattle.vrf_writer.proofs.Laws.Groups.{path-is}

-- the rest of k's chain, from the pointer p on, still has the last entry for k
pub record Walking (s : Store) (k : List ℕ) (limit p : ℕ) : Type 0 where
  pub within : limit ≤ 3 * s.header.groups
  pub same : walk (path_hit s.group_rows s.texts k) (word s.path_links) limit p ≡ last_below (path_hit s.group_rows s.texts k) (3 * s.header.groups)

-- no number after h and below j passes the test
pub record Scanned (test : ℕ → Bool) (h j : ℕ) : Type 0 where
  pub following : h < j
  pub clear : (i : ℕ) → h < i → i < j → test i ≡ false

-- a number before j passes the test together with j
pub record Hit (test : ℕ → ℕ → Bool) (j : ℕ) : Type 0 where
  pub earlier : ℕ
  pub before : earlier < j
  pub key : test earlier j ≡ true

-- among n numbers, no pair i < j passes the test with i below h and j below `least`; `least` is n, or passes the test with an earlier one
pub record Sought (test : ℕ → ℕ → Bool) (n h least : ℕ) : Type 0 where
  pub within : least ≤ n
  pub clear : (i j : ℕ) → i < h → i < j → j < least → test i j ≡ false
  pub hit : least < n → Hit test least

-- ---- the first clash among n groups

module _ (f : ℕ → Group) (n : ℕ) where
  -- whether the path of group j is a key of group i
  abbrev key_at : ℕ → ℕ → Bool
  key_at i j = has_key (f i).path (f j).path

  path-of : (i : ℕ) → i < n → Lookup.path_at (up_to f n) i ≡ (f i).path
  path-of i h = place_or-at (λ (g : Group). g.path) [] (up_to f n) i (f i) (rw (length-up_to f n) h) ∙ ap (λ (g : Group). g.path) (get_d-up_to f n i (f i) h)

  of-clash : {i j : ℕ} → Clash (up_to f n) i j → (j < n) × (key_at i j ≡ true)
  of-clash {i} {j} c =
      let below : j < n = rw (length-up_to f n) at c.below in
      (below, rw (path-of i (omega (arith, c.before)), path-of j below) at c.key)

  is-clash : {i j : ℕ} → i < j → j < n → key_at i j ≡ true → Clash (up_to f n) i j
  is-clash {i} {j} before below key = record { before = before; below = rw (length-up_to f n) below; key = rw (path-of i (omega arith), path-of j below) key }

  without-clash : ((i j : ℕ) → i < j → j < n → key_at i j ≡ false) → first_clash [] (up_to f n) ≡ none
  without-clash h = (no-clash (up_to f n)).1 (λ i j c. let k = of-clash c in clash (cc (k.1, h i j c.before k.0)))

  with-clash : (j : ℕ) → j < n → Hit key_at j → ((i k : ℕ) → i < k → k < j → key_at i k ≡ false) → first_clash [] (up_to f n) ≡ some j
  with-clash j below t h = (first-clash (up_to f n) j).1 (record {
    earlier = t.earlier;
    clash = is-clash t.before below t.key;
    least = λ i k c. by_order j k (λ m. m) (λ m. clash (cc ((of-clash c).1, h i k c.before m)));
  })

-- ---- narrowing down

module _ {p q : ℕ → Bool} where
  pub narrowed-as : {h least r : ℕ} → ((j : ℕ) → p j ≡ q j) → Narrowed p h least r → Narrowed q h least r
  narrowed-as e n = record {
    within = n.within;
    clear = λ j a b. sym (e j) ∙ n.clear j a b;
    hit = λ l. ((n.hit l).0, sym (e _) ∙ (n.hit l).1);
  }

  -- narrowed down by one test and then by another
  pub narrowed-both : {h least a b : ℕ} → Narrowed p h least a → Narrowed q h a b → Narrowed (λ j. p j || q j) h least b
  narrowed-both {h} {least} {a} {b} n m = record {
    within = omega (arith, n.within, m.within);
    clear = λ j k l. rw (n.clear j k (omega (arith, l, m.within)), m.clear j k l);
    hit = λ l. by_order a b
        (λ g. let same_place : b ≡ a = omega (arith, g, m.within) in
        let it = n.hit (omega (arith, l, same_place)) in
        (omega (arith, it.0, same_place), rw (same_place, it.1)))
        (λ g. let it = m.hit g in (it.0, rw it.1 (or-true (p b))));
  }

pub narrowed_none : {p : ℕ → Bool} (h least : ℕ) → NoneAfter p h least → Narrowed p h least least
narrowed_none h least f = record { within = omega arith; clear = f; hit = λ l. absurd (omega (arith, l)) }

-- narrowed down by testing one number after another
pub scanned-start : (test : ℕ → Bool) (h : ℕ) → Scanned test h (h + 1)
scanned-start test h = record { following = omega arith; clear = λ i a b. absurd (omega (arith, a, b)) }

module _ {test : ℕ → Bool} {h j : ℕ} (n : Scanned test h j) where
  pub scanned-step : test j ≡ false → Scanned test h (j + 1)
  scanned-step e = record { following = omega (arith, n.following); clear = λ i a b. by_equal i j (λ q. rw q e) (λ q. n.clear i a (omega (arith, b, q))) }

  pub scanned-hit : {to : ℕ} → j < to → test j ≡ true → Narrowed test h to j
  scanned-hit l e = record { within = omega (arith, l); clear = n.clear; hit = λ _. (n.following, e) }

  pub scanned-end : {to : ℕ} → to ≤ j → Narrowed test h to to
  scanned-end {to} l = narrowed_none h to (λ i a b. n.clear i a (omega (arith, b, l)))

pub path-test : (s : Store) (k : List ℕ) (j : ℕ) {t : List ℕ} {b : Bool} → b ≡ same k t → t ≡ path_at s j → is_at s (some k) j ≡ b
unfolding key_is
path-test s k j e d = ap (same k) (sym d) ∙ sym e

-- a search for the path k among the answers about the groups' paths
module _ (s : Store) (k : List ℕ) where
  abbrev pub path_looked : ℕ → Bool
  path_looked j = same k (place_or (λ (g : Group). g.path) [] (content_of s).groups j)

  is-looked : (j : ℕ) → j < s.header.groups → is_at s (some k) j ≡ path_looked j
  is-looked j h = path-test s k j refl (path-is s j h refl)

  pub first-looked : (h to : ℕ) (r : Found ℕ) → to ≤ s.header.groups
      → MatchOption r ((j : ℕ) → h + 1 ≤ j → j < to → path_looked j ≡ false) (λ j. (h + 1 ≤ j) × (j < to) × (path_looked j ≡ true) × ((i : ℕ) → h + 1 ≤ i → i < j → path_looked i ≡ false))
      → FirstAfter (is_at s (some k)) h to r
  first-looked h to None few f = λ j a b. is-looked j (omega (arith, b, few)) ∙ f j (omega (arith, a)) b
  first-looked h to (Some j) few f =
      (omega (arith, f.0), f.1, is-looked j (omega (arith, f.1, few)) ∙ f.2, λ i a b. is-looked i (omega (arith, b, f.1, few)) ∙ f.3 i (omega (arith, a)) b)

-- an alias that is absent, and one that is there
module _ (s : Store) {o : Option (List ℕ)} {h least : ℕ} where
  pub alias-none : o ≡ none → Narrowed (is_at s o) h least least
  unfolding key_is
  alias-none e = narrowed_none h least (λ j a b. ap (λ (x : Option (List ℕ)). is_at s x j) e)

  pub alias-some : {k : List ℕ} {r : ℕ} → o ≡ some k → Narrowed (is_at s (some k)) h least r → Narrowed (is_at s o) h least r
  alias-some e = narrowed-as (λ j. ap (λ (x : Option (List ℕ)). is_at s x j) (sym e))

-- it is enough to search up to the last group with the path k
module _ {s : Store} {k : List ℕ} {end h least to r : ℕ} (d : Keyed s k end) (e : to ≡ min end least) (n : Narrowed (is_at s (some k)) h to r) where
  pub narrowed-less : r < to → Narrowed (is_at s (some k)) h least r
  narrowed-less l = record { within = omega (arith, n.within, e); clear = n.clear; hit = λ _. n.hit l }

  pub narrowed-not : least ≤ s.header.groups → to ≤ r → Narrowed (is_at s (some k)) h least least
  narrowed-not few l = narrowed_none h least (λ j a b. by_order end j
      (λ past. d.past j past (omega (arith, b, few)))
      (λ before. n.clear j a (omega (arith, b, before, l, e))))

-- ---- the chain of a key

-- a key is as long as its path, or 6 or 9 bytes longer or shorter
pub key-lengths : (t k : List ℕ) {d : ℕ} → d ≡ (length t - length k) + (length k - length t) → (has_key t k ≡ false) ⊎ ((d ≡ 0) ⊎ ((d ≡ 6) ⊎ (d ≡ 9)))
key-lengths t k {d} e = by-test (has_key t k)
    (λ h. inr (⊎_elim
    (λ q. inl (omega (arith, ap length q, e)))
    (⊎_elim
    (λ q. inr (inr (⊎_elim (λ l. omega (arith, l, e)) (λ l. omega (arith, l, e)) (default-length t q))))
    (λ q. inr (inl (⊎_elim (λ l. omega (arith, l, e)) (λ l. omega (arith, l, e)) (core-length t q)))))
    (has-cases t k h)))
    (λ h. inl h)

-- a length difference other than these three
pub far-key : (t k : List ℕ) {d : ℕ} → d ≡ (length t - length k) + (length k - length t) → d ≢ 0 → d ≢ 6 → d ≢ 9 → has_key t k ≡ false
far-key t k e zero-not six-not nine-not =
    ⊎_elim (λ h. h) (λ z. absurd (⊎_elim zero-not (λ z. ⊎_elim six-not nine-not z) z)) (key-lengths t k e)

-- a path that does not have the key k has no entry for k
number-none : (t k : List ℕ) (i : ℕ) → has_key t k ≡ false → key_is (key_numbered t i) k ≡ false
unfolding key_numbered key_is
number-none t k i e =
    let parts = or_parts (same t k) (key_is (default_alias t) k || key_is (core_alias t) k) (sym (has-by-parts t k) ∙ e) in
    let aliases = or_parts (key_is (default_alias t) k) (key_is (core_alias t) k) parts.1 in
    go i (parts.0, aliases.0, aliases.1)
  where
    go : (i : ℕ) → (same t k ≡ false) × (key_is (default_alias t) k ≡ false) × (key_is (core_alias t) k ≡ false) → key_is (key_numbered t i) k ≡ false
    go zero n = n.0
    go (suc zero) n = n.1
    go (suc (suc i)) n = n.2

module _ (s : Store) (k : List ℕ) where
  abbrev hit : ℕ → Bool
  hit e = path_hit s.group_rows s.texts k e

  entry-none : (e : ℕ) → has_key (text s.group_rows s.texts (e / 3)) k ≡ false → hit e ≡ false
  unfolding path_hit
  entry-none e h = number-none (text s.group_rows s.texts (e / 3)) k (e % 3) h

  -- a group with the path k has an entry for k
  own-entry : (j : ℕ) → is_at s (some k) j ≡ true → hit (3 * j) ≡ true
  unfolding key_is group_by key_numbered
  own-entry j e = rw add-zero at (path-entry s.group_rows s.texts k j 0 (omega arith)) ∙ rw (← same_true k (path_at s j) e) (same_refl k)

  pub walking_start : Valid s → {p limit : ℕ} → p ≡ text_start s.path_heads (Layout.path_buckets s.header.allowed) k → limit ≡ 3 * s.header.groups → Walking s k limit p
  walking_start v ep el = record { within = omega (arith, el); same = rw (ep, el) (v.paths k) }

  module _ {limit p : ℕ} (w : Walking s k limit p) where
    pub walking-step : 0 < p → p - 1 < limit → has_key (text s.group_rows s.texts ((p - 1) / 3)) k ≡ false → {q : ℕ} → q ≡ word s.path_links (p - 1) → Walking s k (p - 1) q
    walking-step h l e eq = record {
      within = omega (arith, w.within, l);
      same = ap (walk hit (word s.path_links) (p - 1)) eq ∙ sym on ∙ w.same;
    }
      where
        on : walk hit (word s.path_links) limit p ≡ walk hit (word s.path_links) (p - 1) (word s.path_links (p - 1))
        on =
            let z : p ≡ suc (p - 1) = omega (arith, h) in
            walk-skip hit (word s.path_links) limit p (omega (arith, h, l))
            ∙ ap (λ (i : ℕ). walk hit (word s.path_links) i i) z
            ∙ walk_at hit (word s.path_links) (p - 1)
            ∙ rw (entry-none (p - 1) e)

    -- every entry for k is before the pointer
    entry-before : (e : ℕ) → e < 3 * s.header.groups → hit e ≡ true → (e < p) × (p ≤ limit)
    entry-before e h t =
        let r = last_below-reach hit (3 * s.header.groups) e h t in
        by_order p limit
        (λ g. let found = sym (walk-skip hit (word s.path_links) limit p g) ∙ w.same ∙ r.1.0 in
        (omega (arith, (rw found at (walk-passes hit (word s.path_links) p p)).0, r.1.1), g))
        (λ g. clash (cc (walk-past hit (word s.path_links) limit p g, w.same, r.1.0)))

    -- so no group from r on has the path k if the pointer is not past the entries of the groups before r; if it is above the limit, no
    -- group has the path k
    pub keyed-from : (r : ℕ) → r ≤ s.header.groups → (p ≤ 3 * r) ⊎ (limit < p) → Keyed s k r
    keyed-from r few ends = record {
      few = few;
      past = λ j a b. false_from_ne_true (is_at s (some k) j) (λ t.
          let it = entry-before (3 * j) (omega (arith, b)) (own-entry j t) in
          ⊎_elim (λ g. omega (arith, it.0, g, a)) (λ g. omega (arith, it.1, g)) ends);
    }

-- narrowed down by all three keys of a group
pub narrowed-keys : (s : Store) (h : ℕ) {t : List ℕ} {least a b r : ℕ} {d c : Option (List ℕ)} → t ≡ path_at s h → d ≡ default_alias t → c ≡ core_alias t
    → Narrowed (is_at s (some t)) h least a → Narrowed (is_at s d) h a b → Narrowed (is_at s c) h b r → Narrowed (is_key_at s h) h least r
unfolding key_is
narrowed-keys s h {t} et ed ec n m o = narrowed-as
    (λ j. sym (ap (λ (x : List ℕ). has_key x (path_at s j)) (sym et) ∙ has-by-parts t (path_at s j) ∙ rw (← ed, ← ec)))
    (narrowed-both n (narrowed-both m o))

-- ---- the search

-- before the first group is taken, nothing is excluded and nothing found
pub sought-start : (test : ℕ → ℕ → Bool) (n : ℕ) → Sought test n 0 n
sought-start test n = record { within = omega arith; clear = λ i j a. absurd (omega (arith, a)); hit = λ l. absurd (omega (arith, l)) }

-- one more group narrows it down
pub sought-step : {test : ℕ → ℕ → Bool} {n h least r : ℕ} → Sought test n h least → Narrowed (test h) h least r → Sought test n (h + 1) r
sought-step {test} {n} {h} {least} {r} s k = record {
  within = omega (arith, s.within, k.within);
  clear = λ i j a b l. by_equal i h (λ q. rw q (k.clear j (omega (arith, b, q)) l)) (λ q. s.clear i j (omega (arith, a, q)) b (omega (arith, l, k.within)));
  hit = λ l. by_order least r
      (λ g. let same_place : r ≡ least = omega (arith, g, k.within) in rw same_place (s.hit (omega (arith, l, same_place))))
      (λ g. record { earlier = h; before = (k.hit g).0; key = (k.hit g).1 });
}

module _ (s : Store) {n h least : ℕ} (e : n ≡ s.header.groups) (found : Sought (is_key_at s) n h least) (over : least ≤ h) where
  all-clear : (i j : ℕ) → i < j → j < least → is_key_at s i j ≡ false
  all-clear i j a b = found.clear i j (omega (arith, a, b, over)) a b

  pub sought-some : least < n → some least ≡ first_clash [] (content_of s).groups
  unfolding content_of
  sought-some l = sym (with-clash (group_at s) s.header.groups least (omega (arith, l, e)) (found.hit l) all-clear)

  pub sought-none : n ≤ least → none ≡ first_clash [] (content_of s).groups
  unfolding content_of
  sought-none l = sym (without-clash (group_at s) s.header.groups (λ i j a b. all-clear i j a (omega (arith, b, l, e))))
