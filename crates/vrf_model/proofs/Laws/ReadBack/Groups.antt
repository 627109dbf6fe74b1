-- The groups of a written block are read back (document 01, Blocks): each is appended, with its slots, to a book that has neither its index
-- nor its path.
use Rattle.std.specs.Prelude.{◌≡◌, refl, Bool, true, false, ◌||◌, ℕ, suc, ◌+◌, ◌≤◌}
use Rattle.std.proofs.Common.{ap, arith, le-ltb}
use mathlib.Core.List.{List, [], ◌∷◌, ◌++◌, append-nil}
use Rattle.std.proofs.Math.Option.{Option, none, some}
use Rattle.std.proofs.Math.ListN.{length}
use Rattle.std.proofs.Math.Seq.{append_snoc}
use Rattle.vrf_path.specs.Keys.{has_key}
use Rattle.vrf_model.specs.Book.{Guid, Slot, Group, Allowances, Increments, no_increment, add_increments, sum, group_fields}
use Rattle.vrf_model.specs.Lookup.{next_place, rest_or_head, last_place, path_place, index_place}
use Rattle.vrf_model.specs.Setting.{done, schema_step, with_groups, new_group, add_group_at, add_group}
use Rattle.vrf_model.specs.Parser.{sum_from}
use Rattle.vrf_model.specs.Block.{is_found, add_first, block_group}
use Rattle.vrf_model.specs.Writer.{encode_group, encode_all, is_key_of, first_clash, here_or_later}
use Rattle.vrf_model.specs.Lawful.{Each, cons, Distinct, LawfulGroup, WithinAllowances}
use Rattle.vrf_model.proofs.Laws.Places.{not-before}
use Rattle.vrf_model.proofs.Laws.Held.{keep-within, listed, groups-within}
use Rattle.vrf_model.proofs.Laws.Parser.{add_none, ParsesTo, parses-return, parses-step, parses-then, quiet_then, then-return, parses-number, parses-text}
use Rattle.vrf_model.proofs.Laws.ReadBack.Slots.{partial, with-slots, fewer-within, slots-parse}

-- ---- keys

neither : (a b : Bool) → (a || b) ≡ false → (a ≡ false) × (b ≡ false)
neither true b e = (cc, cc)
neither false b e = (refl, e)

-- a path that is a key of no group is not found
no_key : (path : List ℕ) (p : List Group) → is_key_of path p ≡ false → path_place path p ≡ none
unfolding is_key_of path_place last_place rest_or_head
no_key path [] e = refl
no_key path (g ∷ p) e =
    let both = neither (has_key g.path path) (is_key_of path p) e in
    rw (no_key path p both.1, both.0)

no-clash : (b : Bool) (x : Option ℕ) → here_or_later b x ≡ none → (b ≡ false) × (x ≡ none)
unfolding here_or_later next_place
no-clash true x e = (cc, cc)
no-clash false none e = (refl, refl)
no-clash false (some i) e = (cc, cc)

-- a group with all its slots read is the whole group
filled-up : (g : Group) → partial g.path g.index g.slots 0 ≡ g
unfolding partial
filled-up g = ap (λ (l : List Slot). record { path = g.path; index = g.index; slots = l }) (append-nil g.slots)

-- n groups, each appended
abbrev pub schema_steps : ℕ → Increments
schema_steps n = record { schema = n; guid = 0; dropped = 0; replaced = 0; renamed = 0 }

one-more : (n : ℕ) → add_increments schema_step (schema_steps n) ≡ schema_steps (suc n)
unfolding add_increments schema_step
one-more n = let e : 1 + n ≡ suc n = omega arith in rw e

module _ (a : Allowances) (guids : List Guid) where
  -- ---- one group

  -- a group whose index and path are not found is appended
  group-added : (p : List Group) (path : List ℕ) (index slots : ℕ) → path_place path p ≡ none → index_place index p ≡ none → WithinAllowances (with-slots a guids p path index [] slots)
      → add_first path index slots (listed a guids p) ≡ done (length p) (with-slots a guids p path index [] slots) schema_step
  unfolding add_first is_found add_group add_group_at with_groups new_group partial
  group-added p path index slots np ni w = rw (np, ni) (keep-within (length p) (with-slots a guids p path index [] slots) schema_step w)

  pub group-parses : (p : List Group) (g : Group) (l : List Group) → LawfulGroup g → is_key_of g.path p ≡ false → Distinct (λ x. x.index) (p ++ (g ∷ l))
      → WithinAllowances (listed a guids ((p ++ (g ∷ [])) ++ l))
      → ParsesTo block_group (encode_group g) (group_fields g) (listed a guids p) (listed a guids (p ++ (g ∷ []))) schema_step
  unfolding block_group encode_group group_fields index_place
  group-parses p g l good key d w =
      let few : length g.slots ≤ 65536 = good.few in
      let whole : WithinAllowances (with-slots a guids p g.path g.index g.slots 0) = rw (filled-up g) (groups-within a guids (p ++ (g ∷ [])) l w) in
      let none_yet = fewer-within a guids p g.path g.index [] g.slots 0 (length g.slots) whole in
      let added = group-added p g.path g.index (length g.slots) (no_key g.path p key) (not-before _ p g l d) none_yet in
      let slots = slots-parse a guids p g.path g.index [] g.slots (omega arith) good.slots whole in
      quiet_then _ (parses-text g.path good.path _)
      (quiet_then _ (parses-number g.index good.index _)
      (quiet_then _ (parses-number (length g.slots) (omega arith) _)
      (rw (le-ltb 65536 (length g.slots) few, ← add_none schema_step)
      (parses-then _ (parses-step (add_first g.path g.index (length g.slots)) _ added) (rw (filled-up g) at slots)))))

  -- ---- all groups

  -- the groups l are read after the groups p
  abbrev GroupsBrought : List Group → List Group → ℕ → Type 0
  GroupsBrought p l i = ParsesTo (sum_from (length l) i (λ _. block_group)) (encode_all encode_group l) (sum group_fields l) (listed a guids p) (listed a guids (p ++ l)) (schema_steps (length l))

  no-groups : (p : List Group) (i : ℕ) → GroupsBrought p [] i
  unfolding sum_from encode_all sum no_increment
  no-groups p i = rw (append-nil p) (parses-return 0 _)

  one-group : (p : List Group) (g : Group) (l : List Group) (i : ℕ) → ParsesTo block_group (encode_group g) (group_fields g) (listed a guids p) (listed a guids (p ++ (g ∷ []))) schema_step
      → GroupsBrought (p ++ (g ∷ [])) l (i + 1) → GroupsBrought p (g ∷ l) i
  unfolding sum_from encode_all sum
  one-group p g l i this rest = rw (← append_snoc p g l, ← one-more (length l)) (parses-then _ this (then-return (λ n. group_fields g + n) rest))

  pub groups-parse : (p l : List Group) (i : ℕ) → Each LawfulGroup l → Distinct (λ x. x.index) (p ++ l) → first_clash p l ≡ none → WithinAllowances (listed a guids (p ++ l)) → GroupsBrought p l i
  unfolding first_clash
  groups-parse p [] i good d clash w = no-groups p i
  groups-parse p (g ∷ l) i (cons h hs) d clash w =
      let e : (p ++ (g ∷ [])) ++ l ≡ p ++ (g ∷ l) = append_snoc p g l in
      let w' : WithinAllowances (listed a guids ((p ++ (g ∷ [])) ++ l)) = rw e w in
      let both = no-clash (is_key_of g.path p) (first_clash (p ++ (g ∷ [])) l) clash in
      one-group p g l i (group-parses p g l h both.0 d w') (groups-parse (p ++ (g ∷ [])) l (i + 1) hs (rw e d) both.1 w')
