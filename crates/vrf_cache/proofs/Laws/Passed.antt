-- The counts of a content, and how they change when a record or a group is added or replaced.
use Rattle.std.specs.Prelude.{◌≡◌, List, [], ◌∷◌, ◌++◌, ℕ, zero, suc, ◌+◌, ◌<◌, ◌≤◌, length, get_or, set}
use Rattle.std.proofs.Common.{◌∙◌, not-suc-le-zero, le_of_suc-le-suc, arith}
use Rattle.std.proofs.Math.Option.{none, some}
use Rattle.std.proofs.Math.ListN.{length-append, length-set}
use borrow.Author.Tests.{lt-ltb, le-ltb}
use Rattle.vrf_model.specs.Book.{Guid, Group, Content, Allowances, sum, guid_text, group_fields, group_text, held_fields, held_text, passed}
use Rattle.vrf_model.specs.Setting.{with_guids, with_groups}
use Rattle.vrf_model.proofs.Laws.Held.{sum-last}
use Rattle.vrf_store.specs.Store.{allowances_of, header_of}
use Rattle.vrf_store.specs.Inner.WellFormed.{WellFormed}
use Rattle.vrf_cache.specs.Inner.Passed.{passed_by}

-- the lowest allowance that is passed
module _ (a : Allowances) (guids groups fields text : ℕ) where
  pub passes-guids : a.guids < guids → some 1 ≡ passed_by a guids groups fields text
  unfolding passed_by
  passes-guids h = rw (lt-ltb _ _ h)

  pub passes-groups : guids ≤ a.guids → a.groups < groups → some 2 ≡ passed_by a guids groups fields text
  unfolding passed_by
  passes-groups g h = rw (le-ltb _ _ g, lt-ltb _ _ h)

  pub passes-fields : guids ≤ a.guids → groups ≤ a.groups → a.fields < fields → some 3 ≡ passed_by a guids groups fields text
  unfolding passed_by
  passes-fields g r h = rw (le-ltb _ _ g, le-ltb _ _ r, lt-ltb _ _ h)

  pub passes-text : guids ≤ a.guids → groups ≤ a.groups → fields ≤ a.fields → a.text < text → some 4 ≡ passed_by a guids groups fields text
  unfolding passed_by
  passes-text g r f h = rw (le-ltb _ _ g, le-ltb _ _ r, le-ltb _ _ f, lt-ltb _ _ h)

  pub passes_none : guids ≤ a.guids → groups ≤ a.groups → fields ≤ a.fields → text ≤ a.text → passed_by a guids groups fields text ≡ none
  unfolding passed_by
  passes_none g r f t = rw (le-ltb _ _ g, le-ltb _ _ r, le-ltb _ _ f, le-ltb _ _ t)

-- a well-formed memory passes no allowance
pub within : {m : List ℕ} → WellFormed m → passed_by (allowances_of m) (header_of m).guids (header_of m).groups (header_of m).fields (header_of m).held ≡ none
within good = let h = good.valid.header in passes_none _ _ _ _ _ h.guids h.groups h.fields h.held

-- the counts of a content
pub record HeldCounts (c : Content) (guids groups fields text : ℕ) : Type 0 where
  pub guids-are : length c.guids ≡ guids
  pub groups-are : length c.groups ≡ groups
  pub fields-are : held_fields c ≡ fields
  pub text-is : held_text c ≡ text

pub passed-counts : (c : Content) {guids groups fields text : ℕ} → HeldCounts c guids groups fields text → passed c ≡ passed_by c.allowed guids groups fields text
unfolding passed passed_by
passed-counts c k = rw (k.guids-are, k.groups-are, k.fields-are, k.text-is)

-- ---- sums with one element replaced

pub sum-set : {A : Type 0} (f : A → ℕ) (l : List A) (i : ℕ) (a d : A) → i < length l → sum f (set l i a) + f (get_or l i d) ≡ sum f l + f a
unfolding sum
sum-set f [] i a d h = absurd (not-suc-le-zero h)
sum-set f (x ∷ l) zero a d h = omega arith
sum-set f (x ∷ l) (suc i) a d h = let rest = sum-set f l i a d (le_of_suc-le-suc h) in omega (arith, rest)

module _ (c : Content) {guids groups fields text : ℕ} (k : HeldCounts c guids groups fields text) where
  -- one more record
  pub counts-guid : (r : Guid) → HeldCounts (with_guids c (c.guids ++ (r ∷ []))) (guids + 1) groups fields (text + length r.path)
  unfolding with_guids held_fields held_text guid_text
  counts-guid r = record {
    guids-are = length-append c.guids (r ∷ []) ∙ omega (arith, k.guids-are);
    groups-are = k.groups-are;
    fields-are = k.fields-are;
    text-is = let s = sum-last guid_text c.guids r in let t = k.text-is in omega (arith, s, t);
  }

  -- one record replaced
  pub counts-guid-set : (i : ℕ) (r d : Guid) → i < length c.guids → (t : ℕ) → t + length (get_or c.guids i d).path ≡ text + length r.path → HeldCounts (with_guids c (set c.guids i r)) guids groups fields t
  unfolding with_guids held_fields held_text guid_text
  counts-guid-set i r d h t e = record {
    guids-are = length-set c.guids i r ∙ k.guids-are;
    groups-are = k.groups-are;
    fields-are = k.fields-are;
    text-is = let s = sum-set guid_text c.guids i r d h in let u = k.text-is in omega (arith, s, u, e);
  }

  -- one more group
  pub counts-group : (g : Group) → group_fields g ≡ 0 → HeldCounts (with_groups c (c.groups ++ (g ∷ []))) guids (groups + 1) fields (text + group_text g)
  unfolding with_groups held_fields held_text
  counts-group g e = record {
    guids-are = k.guids-are;
    groups-are = length-append c.groups (g ∷ []) ∙ omega (arith, k.groups-are);
    fields-are = let s = sum-last group_fields c.groups g in let u = k.fields-are in omega (arith, s, u, e);
    text-is = let s = sum-last group_text c.groups g in let u = k.text-is in omega (arith, s, u);
  }

  -- one group replaced
  pub counts-group-set : (i : ℕ) (g d : Group) → i < length c.groups → (f t : ℕ) → f + group_fields (get_or c.groups i d) ≡ fields + group_fields g → t + group_text (get_or c.groups i d) ≡ text + group_text g → HeldCounts (with_groups c (set c.groups i g)) guids groups f t
  unfolding with_groups held_fields held_text
  counts-group-set i g d h f t ef et = record {
    guids-are = k.guids-are;
    groups-are = length-set c.groups i g ∙ k.groups-are;
    fields-are = let s = sum-set group_fields c.groups i g d h in let u = k.fields-are in omega (arith, s, u, ef);
    text-is = let s = sum-set group_text c.groups i g d h in let u = k.text-is in omega (arith, s, u, et);
  }
