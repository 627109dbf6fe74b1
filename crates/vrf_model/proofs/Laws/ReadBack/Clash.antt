-- The block of a book that the writer refuses with 44: reading it into a fresh book is refused with 34, at the first group whose path is a
-- key of a group before it.
use Rattle.std.specs.Prelude.{◌≡◌, Bool, ◌||◌}
use Rattle.std.proofs.Math.Path.{refl, subst}
use Rattle.std.proofs.Math.Bool.{true, false, or-true}
use mathlib.Core.List.{List, [], ◌∷◌, ◌++◌, append-nil}
use Rattle.std.proofs.Math.Option.{Option, none, some}
use Prim.Native.Nat.{ℕ, suc, ◌+◌, ◌≤◌}
use Rattle.std.proofs.Common.{arith, le-ltb}
use Rattle.std.proofs.Math.ListN.{length}
use Rattle.std.proofs.Math.Seq.{append_snoc}
use Rattle.vrf_path.specs.Keys.{has_key}
use Rattle.vrf_model.specs.Book.{Guid, Group, Allowances, Content, fresh}
use Rattle.vrf_model.specs.Lookup.{next_place, rest_or_head, last_place, place_or, path_place, index_place, index_at}
use Rattle.vrf_model.specs.Setting.{refuses}
use Rattle.vrf_model.specs.Parser.{sum_from}
use Rattle.vrf_model.specs.Block.{by_table, is_found, add_first, block_group, block}
use Rattle.vrf_model.specs.Writer.{encode_slots, encode_group, encode_all, encode_tables, encode_book, is_key_of, first_clash, here_or_later}
use Rattle.vrf_model.specs.Clash.{FirstClash}
use Rattle.vrf_model.specs.Lawful.{Each, cons, Distinct, LawfulGroup, WithinAllowances, Lawful}
use Rattle.vrf_model.proofs.Laws.Clash.{first-clash}
use Rattle.vrf_model.proofs.Laws.Held.{listed}
use Rattle.vrf_model.proofs.Laws.Parser.{parses-word, parses-number, parses-text, FailsWith, stops-step, stops_first, stops_then}
use Rattle.vrf_model.proofs.Laws.ReadBack.Groups.{group-parses}
use Rattle.vrf_model.proofs.Laws.ReadBack.Block.{word_of, word-32, zero-parses, all-within, guid-count, group-count, guids-part}

-- a path that is a key of a group is found
has-key : (path : List ℕ) (p : List Group) → is_key_of path p ≡ true → is_found (path_place path p) ≡ true
unfolding is_key_of path_place last_place rest_or_head is_found
has-key path [] e = cc
has-key path (g ∷ p) e = by-rest (has_key g.path path) (last_place (λ x. has_key x.path path) p) (is_key_of path p) e (has-key path p)
  where
    by-rest : (b : Bool) (x : Option ℕ) (k : Bool) → (b || k) ≡ true → (k ≡ true → is_found x ≡ true) → is_found (rest_or_head b x) ≡ true
    by-rest true none k e h = refl
    by-rest true (some i) k e h = refl
    by-rest false none k e h = h e
    by-rest false (some i) k e h = refl

none-some : {i : ℕ} → ◌≡◌ {A = Option ℕ} none (some i) → ⊥
none-some e = let z : ◌≡◌ {A = ℕ} 0 1 = cc in omega arith

module _ (a : Allowances) (guids : List Guid) where
  refused-34 : (p : List Group) (path : List ℕ) (index slots : ℕ) → is_key_of path p ≡ true → add_first path index slots (listed a guids p) ≡ refuses 34 index 0
  unfolding add_first
  refused-34 p path index slots key = rw (has-key path p key, or-true (is_found (index_place index p)))

  group-stops : (p : List Group) (g : Group) → LawfulGroup g → is_key_of g.path p ≡ true → FailsWith block_group (encode_group g) (listed a guids p) 34 g.index 0
  unfolding block_group encode_group
  group-stops p g good key =
      let few : length g.slots ≤ 65536 = good.few in
      stops_then _ (parses-text g.path good.path _)
      (stops_then _ (parses-number g.index good.index _)
      (stops_then _ (parses-number (length g.slots) (omega arith) _)
      (rw (le-ltb 65536 (length g.slots) few)
      (stops_first _ (encode_slots 0 g.slots) (stops-step (add_first g.path g.index (length g.slots)) _ (refused-34 p g.path g.index (length g.slots) key))))))

  -- reading the groups l after the groups p is refused at place j of l
  abbrev GroupsStop : List Group → List Group → ℕ → ℕ → Type 0
  GroupsStop p l i j = FailsWith (sum_from (length l) i (λ _. block_group)) (encode_all encode_group l) (listed a guids p) 34 (index_at l j) 0

  stop-here : (p : List Group) (g : Group) (l : List Group) (i : ℕ) → LawfulGroup g → is_key_of g.path p ≡ true → GroupsStop p (g ∷ l) i 0
  unfolding sum_from encode_all place_or
  stop-here p g l i good key = stops_first _ (encode_all encode_group l) (group-stops p g good key)

  stop-later : (p : List Group) (g : Group) (l : List Group) (i j : ℕ) → LawfulGroup g → is_key_of g.path p ≡ false → Distinct (λ x. x.index) (p ++ (g ∷ l))
      → WithinAllowances (listed a guids ((p ++ (g ∷ [])) ++ l)) → GroupsStop (p ++ (g ∷ [])) l (i + 1) j → GroupsStop p (g ∷ l) i (suc j)
  unfolding sum_from encode_all place_or
  stop-later p g l i j good key d w rest = stops_then _ (group-parses a guids p g l good key d w) (rw (← append-nil (encode_all encode_group l)) (stops_first _ [] rest))

  groups-stop : (p l : List Group) (i j : ℕ) → Each LawfulGroup l → Distinct (λ x. x.index) (p ++ l) → first_clash p l ≡ some j → WithinAllowances (listed a guids (p ++ l)) → GroupsStop p l i j
  unfolding first_clash here_or_later next_place
  groups-stop p [] i j good d clash w = absurd (none-some clash)
  groups-stop p (g ∷ l) i j (cons h hs) d clash w =
      let e : (p ++ (g ∷ [])) ++ l ≡ p ++ (g ∷ l) = append_snoc p g l in
      let w' : WithinAllowances (listed a guids ((p ++ (g ∷ [])) ++ l)) = rw e w in
      here-or-later w' (is_key_of g.path p) refl (first_clash (p ++ (g ∷ [])) l) refl clash (λ k clash'. groups-stop (p ++ (g ∷ [])) l (i + 1) k hs (rw e d) clash' w')
    where
      here-or-later : WithinAllowances (listed a guids ((p ++ (g ∷ [])) ++ l)) → (b : Bool) → is_key_of g.path p ≡ b → (x : Option ℕ) → first_clash (p ++ (g ∷ [])) l ≡ x → here_or_later b x ≡ some j
          → ((k : ℕ) → first_clash (p ++ (g ∷ [])) l ≡ some k → GroupsStop (p ++ (g ∷ [])) l (i + 1) k) → GroupsStop p (g ∷ l) i j
      here-or-later w' true key x ex at rest = let first : 0 ≡ j = cc in subst (GroupsStop p (g ∷ l) i) first (stop-here p g l i h key)
      here-or-later w' false key none ex at rest = absurd (none-some at)
      here-or-later w' false key (some k) ex at rest = let next : suc k ≡ j = cc in subst (GroupsStop p (g ∷ l) i) next (stop-later p g l i k h key d w' (rest k ex))

pub stops-34 : {a : Allowances} (c : Content) → Lawful a c → {place : ℕ} → FirstClash c.groups place → length (encode_book c) ≤ 268435456 → a.guids ≤ a.literals
    → FailsWith (block by_table) (encode_book c) (fresh a) 34 (index_at c.groups place) 0
unfolding block encode_book encode_tables
stops-34 {a} c law {place} clash size space =
    let groups = groups-stop a c.guids [] c.groups 0 place law.groups law.indices_distinct ((first-clash c.groups place).1 clash) (all-within c law) in
    stops_then _ (parses-word (word_of c) (word-32 c size) _)
    (stops_then _ (zero-parses 4 _)
    (stops_then _ (zero-parses 8 _)
    (stops_then _ (zero-parses 12 _)
    (stops_then _ (guid-count c law _)
    (stops_then _ (guids-part c law space)
    (stops_then _ (group-count c law _)
    (rw (← append-nil (encode_all encode_group c.groups)) (stops_first _ [] groups))))))))
