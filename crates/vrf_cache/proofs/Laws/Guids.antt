-- `set_net_guid_path` on a well-formed memory: what the writes of each case require, and that they make the model's step. Used by the
-- proofs of `guids`.
use Rattle.std.specs.Prelude.{◌≡◌, true, false, ◌&&◌, ℕ, ◌+◌, ◌-◌, ◌<◌, ◌≤◌, eqb, length, get_or, Err}
use Rattle.std.proofs.Math.Path.{sym, ap}
use Rattle.std.proofs.Common.{◌∙◌, add-zero, arith, get_or-set_same, set-set}
use mathlib.Core.List.{List, []}
use Rattle.std.proofs.Math.Option.{Option, none, some}
use Rattle.vrf_bitio.specs.declared.Refusal.{Refusal}
use Rattle.vrf_bitio.specs.Bits.{Bytes}
use Rattle.vrf_text.specs.Text.{IsText}
use Rattle.vrf_path.specs.Text.{same}
use Rattle.vrf_words.specs.Words.{part}
use Rattle.vrf_model.specs.Book.{Guid, Allowances, Content, guid_text, held_text, no_increment}
use Rattle.vrf_model.specs.Lookup.{place_or, guid_place}
use Rattle.vrf_model.specs.Setting.{Step, guid_step, with_guids, new_guid, with_path, has_path, set_guid_at, set_guid}
use Rattle.vrf_model.proofs.Laws.Places.{place_or-at, alter-set}
use Rattle.vrf_table.specs.Table.{key}
use Rattle.vrf_table.specs.declared.TextSpan.{TextSpan}
use Rattle.vrf_store.specs.Store.{allowances_of, header_of, store_of, guid_at, content_of}
use Rattle.vrf_store.specs.Inner.WellFormed.{WellFormed}
use Rattle.vrf_store.specs.Inner.Stepped.{held, Stepped}
use Rattle.vrf_store.specs.Inner.Counters.{CountersStepped}
use Rattle.vrf_store.specs.Inner.Guids.{guid_of, NewGuid, OldGuid}
use Rattle.vrf_store.proofs.Laws.Memory.UpTo.{get_d-up_to}
use Rattle.vrf_store.proofs.Laws.Lookups.{guid-known}
use Rattle.vrf_cache.specs.Inner.Taken.{Taken, NotTaken}
use Rattle.vrf_cache.specs.Inner.Passed.{passed_by, passes_by, FitsBy}
use Rattle.vrf_cache.specs.Inner.Texts.{TextWritten}
use Rattle.vrf_cache.specs.Inner.Guids.{setting, with_new, GuidToAdd, with_other, GuidToChange}
use Rattle.vrf_cache.proofs.Laws.Taken.{unmoved, then, same_then, counted-then}
use Rattle.vrf_cache.proofs.Laws.Passed.{HeldCounts, sum-set, counts-guid, counts-guid-set}
use Rattle.vrf_cache.proofs.Laws.Keeping.{CountsAllowed, allows, kept, full}
use Rattle.vrf_cache.proofs.Laws.Numbers.{allowed, counts, Numbers, numbers}
use Rattle.vrf_cache.proofs.Laws.Texts.{put-placed, none-placed}

-- the length of the path of record e
abbrev path_bytes : Content → ℕ → ℕ
path_bytes c e = length (place_or (λ (g : Guid). g.path) [] c.guids e)

-- ---- one more record

module _ {m path : List ℕ} (guid outer : ℕ) {w : Option ℕ} (asked : GuidToAdd m path guid) (passes : w ≡ passes_by m 1 0 0 0 (length path)) where
  e : w ≡ passed_by (allowances_of m) ((header_of m).guids + 1) (header_of m).groups (header_of m).fields ((header_of m).held + length path)
  e = let whole : (header_of m).held - 0 ≡ (header_of m).held = omega arith in rw (add-zero (header_of m).groups, add-zero (header_of m).fields, whole) at passes

  abbrev added : Content
  added = with_new (held m) (new_guid guid path outer)

  added-counts : HeldCounts added ((header_of m).guids + 1) (header_of m).groups (header_of m).fields ((header_of m).held + length path)
  added-counts = counts-guid (held m) (counts asked.good) (new_guid guid path outer)

  added-allowed : added.allowed ≡ allowances_of m
  unfolding with_guids
  added-allowed = allowed m

  pub new-full : {m' : List ℕ} → {r : Refusal} → FitsBy w (Err r) → m' ≡ m → NotTaken (setting added) r m m'
  new-full = full added-counts added-allowed e (tt {0}) guid_step

  module _ (z : w ≡ none) where
    new-allows : CountsAllowed (allowances_of m) ((header_of m).guids + 1) (header_of m).groups (header_of m).fields ((header_of m).held + length path)
    new-allows = allows added-counts added-allowed e z

    pub new-space : (header_of m).held + length path ≤ (allowances_of m).text
    new-space = new-allows.text-fits

    module _ {m₁ : List ℕ} {span : TextSpan} (p : TextWritten m path m₁ span) where
      pub new-guid : NewGuid m₁ guid span.at span.len
      new-guid =
          let n = numbers p.stepped.good p.stepped.content (counts asked.good) in
          let guids = ap (λ (x : Allowances). x.guids) (n.allowed-are ∙ allowed m) in
          let text = ap (λ (x : Allowances). x.text) (n.allowed-are ∙ allowed m) in
          record {
            good = p.stepped.good;
            new = ap (λ (c : Content). guid_place guid c.guids) p.stepped.content ∙ asked.new;
            few = omega (arith, guids, n.guids-are, new-allows.guids-fit);
            placed = put-placed p asked.is_text;
            space = omega (arith, text, n.text-is, new-allows.text-fits, p.long);
          }

      pub new-taken : {m₂ m₃ : List ℕ} → Stepped m₁ m₂ (with_new (held m₁) (guid_of (store_of m₁) guid span.at span.len outer)) → CountersStepped m₂ m₃ guid_step → Taken (setting added) tt m m₃
      new-taken s k = kept added-counts added-allowed e (tt {0}) guid_step z (counted-then (then p.stepped (rw (p.stepped.content, p.text) at s)) k)

-- ---- a new path and outer of a record

module _ {m : List ℕ} (good : WellFormed m) {e : ℕ} (known : e < (header_of m).guids) where
  listed : e < length (held m).guids
  listed = omega (arith, (counts good).guids-are)

  path-bytes : (d : Guid) → path_bytes (held m) e ≡ length (get_or (held m).guids e d).path
  path-bytes d = ap length (place_or-at (λ (g : Guid). g.path) [] (held m).guids e d listed)

  -- its path is part of the texts held
  pub path-held : path_bytes (held m) e ≤ (header_of m).held
  unfolding held_text guid_text
  path-held =
      let d = new_guid 0 [] 0 in
      omega (arith, path-bytes d, sum-set guid_text (held m).guids e d d listed, (counts good).text-is)

  -- the GUID of a record is its row's key
  listed-key : (d : Guid) → (get_or (held m).guids e d).guid ≡ key (store_of m).guid_rows e
  unfolding content_of guid_at
  listed-key d = ap (λ (g : Guid). g.guid) (get_d-up_to (guid_at (store_of m)) (header_of m).guids e d known)

  -- with record e replaced, only the text bytes change
  other-counts : (r : Guid) → HeldCounts (with_other (held m) e r) (header_of m).guids (header_of m).groups (header_of m).fields ((header_of m).held - path_bytes (held m) e + length r.path)
  other-counts r = counts-guid-set (held m) (counts good) e r r listed _ (omega (arith, path-bytes r, path-held))

-- first the old path is released
pub release-path : {m path : List ℕ} {e : ℕ} → GuidToChange m path e → OldGuid m e 0 0
release-path {m} asked = record { good = asked.good; known = asked.known; placed = none-placed (header_of m).used (store_of m).texts; space = omega (arith, asked.good.valid.header.held) }

module _ {m path : List ℕ} {e : ℕ} (outer : ℕ) {w : Option ℕ} (asked : GuidToChange m path e) (passes : w ≡ passes_by m 0 0 0 (path_bytes (held m) e) (length path)) where
  q : w ≡ passed_by (allowances_of m) (header_of m).guids (header_of m).groups (header_of m).fields ((header_of m).held - path_bytes (held m) e + length path)
  q = rw (add-zero (header_of m).guids, add-zero (header_of m).groups, add-zero (header_of m).fields) at passes

  abbrev guid : ℕ
  guid = key (store_of m).guid_rows e

  abbrev other : List ℕ → Content
  other t = with_other (held m) e (new_guid guid t outer)

  counted : (t : List ℕ) → HeldCounts (other t) (header_of m).guids (header_of m).groups (header_of m).fields ((header_of m).held - path_bytes (held m) e + length t)
  counted t = other-counts asked.good asked.known (new_guid guid t outer)

  other-allowed : (t : List ℕ) → (other t).allowed ≡ allowances_of m
  unfolding with_guids
  other-allowed t = allowed m

  pub other-full : {m' : List ℕ} → {r : Refusal} → FitsBy w (Err r) → m' ≡ m → NotTaken (setting (other path)) r m m'
  other-full = full (counted path) (other-allowed path) q (tt {0}) guid_step

  module _ (z : w ≡ none) {m₁ : List ℕ} (s₁ : Stepped m m₁ (with_other (held m) e (guid_of (store_of m) guid 0 0 outer))) where
    first : Stepped m m₁ (other [])
    unfolding part
    first = s₁

    abbrev Empty : List ℕ → Type 0
    Empty y = Numbers y (other []).allowed (header_of m).guids (header_of m).groups (header_of m).fields ((header_of m).held - path_bytes (held m) e + 0)

    has-space : {y : List ℕ} → Empty y → (header_of y).held + length path ≤ (allowances_of y).text
    has-space n =
        omega (arith, ap (λ (x : Allowances). x.text) (n.allowed-are ∙ other-allowed []), n.text-is, (allows (counted path) (other-allowed path) q z).text-fits)

    pub other-space : WellFormed m₁ × ((header_of m₁).held + length path ≤ (allowances_of m₁).text)
    other-space = (first.good, has-space (numbers first.good first.content (counted [])))

    module _ {m₂ : List ℕ} {span : TextSpan} (p : TextWritten m₁ path m₂ span) where
      second : Stepped m m₂ (other [])
      second = same_then first p.stepped

      empty : Empty m₂
      empty = numbers second.good second.content (counted [])

      there : e < (header_of m₂).guids
      there = omega (arith, asked.known, empty.guids-are)

      pub other-guid : OldGuid m₂ e span.at span.len
      other-guid = record { good = second.good; known = there; placed = put-placed p asked.is_text; space = omega (arith, has-space empty, p.long) }

      same_key : key (store_of m₂).guid_rows e ≡ guid
      unfolding with_guids
      same_key =
          let d = new_guid guid [] outer in
          sym (listed-key second.good there d)
          ∙ ap (λ (c : Content). (get_or c.guids e d).guid) second.content
          ∙ ap (λ (g : Guid). g.guid) (get_or-set_same (held m).guids e d d (listed asked.good asked.known))

      set-again : (r : Guid) → with_other (other []) e r ≡ with_other (held m) e r
      unfolding with_guids
      set-again r = ap (with_guids (held m)) (set-set (held m).guids e (new_guid guid [] outer) r)

      pub other-taken : {m₃ m₄ : List ℕ} → Stepped m₂ m₃ (with_other (held m₂) e (guid_of (store_of m₂) (key (store_of m₂).guid_rows e) span.at span.len outer)) → CountersStepped m₃ m₄ guid_step → Taken (setting (other path)) tt m m₄
      other-taken s k = kept (counted path) (other-allowed path) q (tt {0}) guid_step z (counted-then (then second (rw (second.content, p.text, same_key, set-again) at s)) k)

-- ---- identical, changed or new

pub has_both : {m : List ℕ} (path : List ℕ) (outer : ℕ) {e : ℕ} → GuidToChange m path e → place_or (has_path path outer) false (held m).guids e ≡ (same path (place_or (λ (g : Guid). g.path) [] (held m).guids e) && eqb outer (place_or (λ (g : Guid). g.outer) 0 (held m).guids e))
unfolding has_path
has_both {m} path outer {e} asked =
    let l = (held m).guids in
    let d = new_guid 0 [] 0 in
    let there : e < length l = listed asked.good asked.known in
    rw (place_or-at (has_path path outer) false l e d there, place_or-at (λ (g : Guid). g.path) [] l e d there, place_or-at (λ (g : Guid). g.outer) 0 l e d there)

module _ (m : List ℕ) (guid : ℕ) (path : List ℕ) (outer : ℕ) where
  abbrev asked : Step (Unit {0})
  asked = set_guid guid path outer (held m)

  pub set_new : guid_place guid (held m).guids ≡ none → asked ≡ setting (with_new (held m) (new_guid guid path outer))
  unfolding set_guid set_guid_at
  set_new o = rw o

  module _ {e : ℕ} (good : WellFormed m) (o : guid_place guid (held m).guids ≡ some e) where
    pub found : IsText path → GuidToChange m path e
    found is_text = record { good = good; is_text = is_text; known = (guid-known good.valid guid e o).0 }

    pub set_same : Bytes m → true ≡ place_or (has_path path outer) false (held m).guids e → Taken asked tt m m
    unfolding set_guid set_guid_at
    set_same b h = record { content = held m; counted = no_increment; step = rw (o, ← h); holds = unmoved good b }

    pub set_other : false ≡ place_or (has_path path outer) false (held m).guids e → asked ≡ setting (with_other (held m) e (new_guid (key (store_of m).guid_rows e) path outer))
    unfolding set_guid set_guid_at
    set_other h =
        let d = new_guid 0 [] 0 in
        let known = (guid-known good.valid guid e o).0 in
        rw (o, ← h, alter-set (with_path path outer) (held m).guids e d (listed good known), listed-key good known d)
