-- Laws about writes: which store the memory then holds, and that allowances, counters and length are unchanged.
use Rattle.std.specs.Prelude.{◌≡◌, ℕ, ◌+◌, ◌*◌, ◌^◌, ◌<◌, ◌≤◌, cond, List, ◌++◌, length, ◌==◌, refl}
use Rattle.std.proofs.Common.{sym, subst, ◌∙◌, arith, length-append, eq-eqb, ne_eqb}
use Rattle.std.proofs.Math.Path.{ap, fun_ext}
use Rattle.vrf_bitio.specs.Pasted.{pasted}
use Rattle.vrf_bitio.proofs.Laws.Pasted.{pasted_length}
use Rattle.vrf_words.specs.Words.{word}
use Rattle.vrf_words.specs.Inner.Words.{set_word}
use Rattle.vrf_words.proofs.Laws.Words.{length-set_word, word-set_word-same, word-set_word-other}
use Rattle.vrf_model.specs.Book.{Allowances, Counters, Content}
use Rattle.vrf_table.proofs.Laws.Chain.{by_equal}
use Rattle.vrf_store.specs.Layout
use Rattle.vrf_store.specs.Store.{Header, Store, allowances_of, header_of, long, counters_of, store_by, store_of, content_of}
use Rattle.vrf_store.specs.Inner.Valid.{Valid}
use Rattle.vrf_store.specs.Inner.WellFormed.{Enough}
use Rattle.vrf_store.specs.Inner.Memory.{with_group_table, with_path_index, with_leaf_index, WrittenStore}
use Rattle.vrf_store.specs.Inner.Stepped.{Stepped}
use Rattle.vrf_store.proofs.Laws.Memory.Regions.{with_guid_table, with_field_table, with_header, regions, region_at, TwoParts, with_two, put-parts}
use Rattle.vrf_store.proofs.Laws.Memory.Header.{header-kept, counters-kept, parts-kept}

-- ---- a store with a new number in its header

abbrev pub guids_to : Store → ℕ → Store
guids_to s v = with_header s (record { allowed = s.header.allowed; guids = v; groups = s.header.groups; fields = s.header.fields; held = s.header.held; used = s.header.used; half = s.header.half })

abbrev pub groups_to : Store → ℕ → Store
groups_to s v = with_header s (record { allowed = s.header.allowed; guids = s.header.guids; groups = v; fields = s.header.fields; held = s.header.held; used = s.header.used; half = s.header.half })

abbrev pub fields_to : Store → ℕ → Store
fields_to s v = with_header s (record { allowed = s.header.allowed; guids = s.header.guids; groups = s.header.groups; fields = v; held = s.header.held; used = s.header.used; half = s.header.half })

abbrev pub held_to : Store → ℕ → Store
held_to s v = with_header s (record { allowed = s.header.allowed; guids = s.header.guids; groups = s.header.groups; fields = s.header.fields; held = v; used = s.header.used; half = s.header.half })

abbrev pub used_to : Store → ℕ → Store
used_to s v = with_header s (record { allowed = s.header.allowed; guids = s.header.guids; groups = s.header.groups; fields = s.header.fields; held = s.header.held; used = v; half = s.header.half })

-- a new half in use changes the texts too, so they are read from the memory
abbrev pub half_to : List ℕ → ℕ → Store
half_to m v = store_by (record { allowed = allowances_of m; guids = (header_of m).guids; groups = (header_of m).groups; fields = (header_of m).fields; held = (header_of m).held; used = (header_of m).used; half = v }) m

-- ---- writes in sequence

-- no write yet
pub unwritten : (m : List ℕ) → WrittenStore m m (store_of m)
unwritten m = record { store = refl; allowed = refl; counters = refl; long = refl }

-- after all writes: if the store is valid, the memory is well-formed and holds its content
pub stepped : {m m' : List ℕ} {s : Store} {c : Content} → Enough m → WrittenStore m m' s → Valid s → content_of s ≡ c → s.literals ≡ (store_of m).literals → Stepped m m' c
stepped {c = c} enough w v e l = record {
  good = record { enough = omega (arith, ap Layout.need w.allowed, w.long, enough); valid = subst (λ (z : Store). Valid z) (sym w.store) v };
  content = subst (λ (z : Store). content_of z ≡ c) (sym w.store) e;
  counters = w.counters;
  long = w.long;
  literals = ap (λ (z : Store). z.literals) w.store ∙ l;
}

-- ---- writing after the header

module _ {m m' : List ℕ} {s : Store} (w : WrittenStore m m' s) where
  pub following : (at : ℕ) (t : List ℕ) (f : Store → Store) → 128 ≤ at → at + length t ≤ length m → store_by (header_of m') (pasted m' at t) ≡ f (store_of m') → WrittenStore m (pasted m' at t) (f s)
  following at t f low space e =
      let fits : at + length t ≤ length m' = omega (arith, space, w.long) in
      let head = header-kept m' t at low fits in
      record {
        store = ap (λ (h : Header). store_by h (pasted m' at t)) head ∙ e ∙ ap f w.store;
        allowed = ap (λ (h : Header). h.allowed) head ∙ w.allowed;
        counters = counters-kept m' t at low fits ∙ w.counters;
        long = pasted_length t m' at fits ∙ w.long;
      }

  module _ (enough : Enough m) where
    still : Enough m'
    still = omega (arith, ap Layout.need w.allowed, w.long, enough)

    module _ (r heads : List ℕ) where
      -- two adjacent parts, written at once at the word that the allowances of m give
      both : (i : ℕ) → 32 ≤ (region_at (regions (allowances_of m)) i).at → TwoParts (allowances_of m) i r heads → WrittenStore m (pasted m' (4 * (region_at (regions (allowances_of m)) i).at) (r ++ heads)) (with_two i r heads s)
      both i low p =
          following (4 * (region_at (regions (allowances_of m)) i).at) (r ++ heads) (with_two i r heads) (omega (arith, low)) (omega (arith, p.space, enough))
          (subst (λ (a : Allowances). TwoParts a i r heads → store_by (header_of m') (pasted m' (4 * (region_at (regions a) i).at) (r ++ heads)) ≡ with_two i r heads (store_of m')) w.allowed
          (λ q. put-parts (header_of m') m' r heads i q (omega (arith, still))) p)

      pub wrote-guid_table : length r ≡ 24 * (allowances_of m).guids → length heads ≡ 4 * Layout.guid_buckets (allowances_of m) → WrittenStore m (pasted m' (4 * Layout.guid_rows_at (allowances_of m)) (r ++ heads)) (with_guid_table s r heads)
      wrote-guid_table lr lh = both 0 (omega arith) (record { two = tt; rows_long = omega (arith, lr); heads-long = lh; space = omega (arith, length-append r heads, lr, lh) })

      pub wrote-group_table : length r ≡ 24 * (allowances_of m).groups → length heads ≡ 4 * Layout.group_buckets (allowances_of m) → WrittenStore m (pasted m' (4 * Layout.group_rows_at (allowances_of m)) (r ++ heads)) (with_group_table s r heads)
      wrote-group_table lr lh = both 2 (omega arith) (record { two = tt; rows_long = omega (arith, lr); heads-long = lh; space = omega (arith, length-append r heads, lr, lh) })

      pub wrote-path_index : length r ≡ 12 * (allowances_of m).groups → length heads ≡ 4 * Layout.path_buckets (allowances_of m) → WrittenStore m (pasted m' (4 * Layout.path_links_at (allowances_of m)) (r ++ heads)) (with_path_index s r heads)
      wrote-path_index lr lh = both 4 (omega arith) (record { two = tt; rows_long = omega (arith, lr); heads-long = lh; space = omega (arith, length-append r heads, lr, lh) })

      pub wrote-leaf_index : length r ≡ 4 * (allowances_of m).groups → length heads ≡ 4 * Layout.leaf_buckets (allowances_of m) → WrittenStore m (pasted m' (4 * Layout.leaf_links_at (allowances_of m)) (r ++ heads)) (with_leaf_index s r heads)
      wrote-leaf_index lr lh = both 6 (omega arith) (record { two = tt; rows_long = lr; heads-long = lh; space = omega (arith, length-append r heads, lr, lh) })

      pub wrote-field_table : length r ≡ 24 * (allowances_of m).fields → length heads ≡ 4 * Layout.field_buckets (allowances_of m) → WrittenStore m (pasted m' (4 * Layout.field_rows_at (allowances_of m)) (r ++ heads)) (with_field_table s r heads)
      wrote-field_table lr lh = both 8 (omega arith) (record { two = tt; rows_long = omega (arith, lr); heads-long = lh; space = omega (arith, length-append r heads, lr, lh) })

-- ---- writing in the header

-- the header and the counters, read from the words f
abbrev pub header_by : (ℕ → ℕ) → Header
header_by f = record { allowed = record { guids = f 0; groups = f 1; fields = f 2; text = f 3; literals = f 4 }; guids = f 5; groups = f 6; fields = f 7; held = f 8; used = f 9; half = f 10 }

abbrev pub counters_by : (ℕ → ℕ) → Counters
counters_by f = record { schema = f 11 + 2 ^ 32 * f 12; guid = f 13 + 2 ^ 32 * f 14; dropped = f 15 + 2 ^ 32 * f 16; replaced = f 17 + 2 ^ 32 * f 18; renamed = f 19 + 2 ^ 32 * f 20 }

-- the words f with v as word j. For a fixed j, the header and the counters are then computed
abbrev pub word_to : (ℕ → ℕ) → ℕ → ℕ → ℕ → ℕ
word_to f j v i = cond (i == j) v (f i)

module _ {m m' : List ℕ} {s : Store} (w : WrittenStore m m' s) (v : ℕ) (small : v < 2 ^ 32) (space : 128 ≤ length m) where
  pub word-to : (j : ℕ) → j < 32 → word (set_word m' j v) ≡ word_to (word m') j v
  word-to j low = fun_ext (λ i.
      let fits : 4 * j + 4 ≤ length m' = omega (arith, low, space, w.long) in
      by_equal i j
      (λ q. rw (q, eq-eqb j j refl) (word-set_word-same m' j v fits small))
      (λ q. rw (ne_eqb i j q) (word-set_word-other m' j v i fits q)))

  -- writing a word that belongs to neither the allowances nor the counters
  in-header : (j : ℕ) → j < 32 → (header_by (word_to (word m') j v)).allowed ≡ allowances_of m' → counters_by (word_to (word m') j v) ≡ counters_by (word m') → WrittenStore m (set_word m' j v) (store_by (header_by (word_to (word m') j v)) m')
  unfolding counters_of long
  in-header j low a c =
      let head : header_of (set_word m' j v) ≡ header_by (word_to (word m') j v) = ap header_by (word-to j low) in
      let fits : 128 ≤ length m' = omega (arith, space, w.long) in
      record {
        store = parts-kept (header_of (set_word m' j v)) m' j v low fits ∙ ap (λ (h : Header). store_by h m') head;
        allowed = ap (λ (h : Header). h.allowed) head ∙ a ∙ w.allowed;
        counters = ap counters_by (word-to j low) ∙ c ∙ w.counters;
        long = length-set_word m' j v (omega (arith, low, fits)) ∙ w.long;
      }

  -- the store of m' is s
  known : {z : List ℕ} (f : Store → Store) → WrittenStore m z (f (store_of m')) → WrittenStore m z (f s)
  known {z} f h = subst (λ (x : Store). WrittenStore m z (f x)) w.store h

  pub wrote-guids : WrittenStore m (set_word m' 5 v) (guids_to s v)
  wrote-guids = known (λ x. guids_to x v) (in-header 5 (omega arith) refl refl)

  pub wrote-groups : WrittenStore m (set_word m' 6 v) (groups_to s v)
  wrote-groups = known (λ x. groups_to x v) (in-header 6 (omega arith) refl refl)

  pub wrote-fields : WrittenStore m (set_word m' 7 v) (fields_to s v)
  wrote-fields = known (λ x. fields_to x v) (in-header 7 (omega arith) refl refl)

  pub wrote-held : WrittenStore m (set_word m' 8 v) (held_to s v)
  wrote-held = known (λ x. held_to x v) (in-header 8 (omega arith) refl refl)

  pub wrote-used : WrittenStore m (set_word m' 9 v) (used_to s v)
  wrote-used = known (λ x. used_to x v) (in-header 9 (omega arith) refl refl)

  pub wrote-half : WrittenStore m (set_word m' 10 v) (half_to m' v)
  wrote-half = in-header 10 (omega arith) refl refl
