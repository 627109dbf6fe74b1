-- The groups of a block: one law for each path through each part of them. Used by the proofs of `groups`.
use Rattle.std.specs.Prelude.{◌≡◌, ◌≢◌, Bool, true, false, cond, ◌||◌, List, ℕ, ◌≤◌, ◌<◌, eqb, ltb, take, is_some}
use Rattle.std.specs.Prelude.{Option as Maybe, Some, None, Result, Err, IfOk}
use Rattle.std.proofs.Math.Path.{refl}
use Rattle.std.proofs.Math.Option.{Option, none, some}
use Rattle.std.proofs.Common.{sym, ◌∙◌, eq-eqb, ne_eqb, lt-ltb, le-ltb}
use Rattle.vrf_bitio.specs.Number.{byte}
use Rattle.vrf_bitio.specs.Answers.{rest_of, read_here, Gave, Refuses}
use Rattle.vrf_bitio.specs.declared.BitReader.{BitReader}
use Rattle.vrf_bitio.specs.declared.Reason.TheVariants.{HandleNotSlot, GroupCollision, CountOverflow}
use Rattle.vrf_bitio.specs.declared.Refusal.{Refusal}
use Rattle.vrf_text.specs.Text.{IsText, fstring}
use Rattle.vrf_model.specs.Book.{Content, Increments}
use Rattle.vrf_model.specs.Lookup.{index_place, path_place}
use Rattle.vrf_model.specs.Setting.{new_group, add_group_at, add_group}
use Rattle.vrf_model.specs.Names.{number}
use Rattle.vrf_model.specs.Parser.{Parser, return, fail, bind_parsed, ◌>>=◌, read, step, sum_from}
use Rattle.vrf_model.specs.Block.{is_found, add_first, same_handle, block_field, block_slot, block_group}
use Rattle.vrf_table.specs.Inner.Answers.{entry}
use Rattle.vrf_store.specs.Inner.WellFormed.{WellFormed}
use Rattle.vrf_store.specs.Inner.Stepped.{held}
use Rattle.vrf_cache.specs.Inner.Taken.{Taken, NotTaken}
use Rattle.vrf_cache.specs.Inner.Groups.{appending, GroupToAdd}
use Rattle.vrf_reader.specs.Inner.Simulates.{Simulates, Refines}
use Rattle.vrf_reader.specs.Inner.Texts.{TextRead}
use Rattle.vrf_reader.specs.Inner.Fields.{field_read, field_then}
use Rattle.vrf_reader.proofs.Laws.Simulates.{alike, stays, taken, not_taken, then, bind, bind-stop, read-on, read-stops, stops, reads}
use Rattle.vrf_reader.proofs.Laws.Chained.{assoc, onward-same}
use Rattle.vrf_reader.proofs.Laws.Fields.{field-then, field-stops}
use Rattle.vrf_reader.proofs.Laws.Texts.{scratch-gave}

-- the code answers the count of k, which is at most `most`, or the refusal
abbrev pub CountReads : Parser ℕ → BitReader → BitReader → List ℕ → List ℕ → ℕ → Result ℕ Refusal → Type 0
CountReads k r d m m' most o = Refines k r d m m' o × IfOk o (λ n. n ≤ most)

-- a count, after a part of its reader was read
count-then : {k k' : Parser ℕ} {r d : BitReader} {m m' : List ℕ} → Simulates k r m k' d m'
    → (e : BitReader) (m'' : List ℕ) (most : ℕ) (o : Result ℕ Refusal) → CountReads k' d e m' m'' most o → CountReads k r e m m'' most o
count-then g e m'' most o h = (reads g e m'' o h.0, h.1)

-- ---- a filled slot

module _ (index slot : ℕ) {r : BitReader} {m : List ℕ} (good : WellFormed m) where
  pub no-handle : (q : Refusal) → Refuses (read_here r number) q → Refines (block_field index slot) r r m m (Err q)
  unfolding block_field
  no-handle q e = read-stops number _ good q e

  module _ {handle : ℕ} {d : BitReader} (g : Gave r (read_here r number) handle d) where
    to-handle : Simulates (block_field index slot) r m (same_handle slot handle >>= λ u. field_then index handle (return 1)) d m
    unfolding block_field
    to-handle = read-on number _ good g

    -- 35: the handle does not equal the slot
    pub other-handle : handle ≢ slot → Simulates (block_field index slot) r m (fail 35 slot handle) r m
    unfolding same_handle
    other-handle h =
        let q : Refusal = record { reason = HandleNotSlot; a = slot; b = handle } in
        stops to-handle q (rw (ne_eqb handle slot h) (bind-stop _ q (stays good)))

    module _ (h : handle ≡ slot) where
      to-field : Simulates (block_field index slot) r m (field_then index handle (return 1)) d m
      unfolding same_handle
      to-field = then to-handle (rw (eq-eqb handle slot h) (bind _ (stays good)))

      pub field-refused : (q : Refusal) {m' : List ℕ} → Refines (field_read index handle) d d m m' (Err q)
          → Refines (block_field index slot) r r m m' (Err q)
      field-refused q f = stops to-field q (field-stops index handle (return 1) good q f)

      pub field-read : {e : BitReader} {m' : List ℕ} → Simulates (field_read index handle) d m (return tt) e m'
          → Simulates (block_field index slot) r m (return 1) e m'
      field-read f = then to-field (field-then index handle (return 1) good f)

  -- ---- the slot byte

  pub no_byte : (q : Refusal) → Refuses (read_here r byte) q → Refines (block_slot index slot) r r m m (Err q)
  unfolding block_slot
  no_byte q e = read-stops byte _ good q e

  module _ {exported : ℕ} {d : BitReader} (g : Gave r (read_here r byte) exported d) where
    to-slot : Simulates (block_slot index slot) r m (cond (eqb exported 0) (return 0) (block_field index slot)) d m
    unfolding block_slot
    to-slot = read-on byte _ good g

    pub slot-empty : exported ≡ 0 → Simulates (block_slot index slot) r m (return 0) d m
    slot-empty z = rw z at to-slot

    pub slot-filled : exported ≢ 0 → (e : BitReader) (m' : List ℕ) (o : Result ℕ Refusal) → CountReads (block_field index slot) d e m m' 1 o
        → CountReads (block_slot index slot) r e m m' 1 o
    slot-filled z e m' o h = count-then (rw (ne_eqb exported 0 z) at to-slot) e m' 1 o h

-- ---- a group that the book does not have

module _ (x y : Option ℕ) where
  pub index-found : {i : ℕ} → some i ≡ x → true ≡ (is_found x || is_found y)
  unfolding is_found
  index-found e = rw (← e)

  pub path-found : none ≡ x → {i : ℕ} → some i ≡ y → true ≡ (is_found x || is_found y)
  unfolding is_found
  path-found e f = rw (← e, ← f)

  pub none_found : none ≡ x → none ≡ y → false ≡ (is_found x || is_found y)
  unfolding is_found
  none_found e f = rw (← e, ← f)

-- the same of the code's answers to both lookups
pub by-index : (i : Maybe ℕ) (x y : Option ℕ) → entry i ≡ x → is_some i ≡ true → true ≡ (is_found x || is_found y)
by-index (Some i) x y e h = index-found x y e
by-index None x y e h = cc

pub by-path : (i : Maybe ℕ) (x : Option ℕ) (j : Maybe ℕ) (y : Option ℕ) → entry i ≡ x → is_some i ≡ false → entry j ≡ y
    → is_some j ≡ (is_found x || is_found y)
by-path (Some i) x j y e h f = cc
by-path None x (Some j) y e h f = path-found x y e f
by-path None x None y e h f = none_found x y e f

-- neither is found
neither : (x y : Option ℕ) → (is_found x || is_found y) ≡ false → (x ≡ none) × (y ≡ none)
unfolding is_found
neither none none e = (refl, refl)
neither none (some j) e = cc
neither (some i) y e = cc

module _ (path : List ℕ) (index slots : ℕ) (m : List ℕ) {b : Bool}
    (e : b ≡ (is_found (index_place index (held m).groups) || is_found (path_place path (held m).groups))) where
  -- 34: index or path already found
  pub already : b ≡ true → NotTaken (add_first path index slots (held m)) (record { reason = GroupCollision; a = index; b = 0 }) m m
  unfolding add_first
  already f = record { step = rw (← e, f); same = refl }

  module _ (f : b ≡ false) where
    new : (index_place index (held m).groups ≡ none) × (path_place path (held m).groups ≡ none)
    new = neither _ _ (sym e ∙ f)

    pub first-asked : WellFormed m → IsText path → slots ≤ 65536 → GroupToAdd m path index slots
    first-asked good is_text few = record { good = good; is_text = is_text; new = new.0; handles = few }

    -- a group that is new is appended
    pub first-added : add_first path index slots (held m) ≡ appending (held m) (new_group path index slots)
    unfolding add_first add_group add_group_at is_found
    first-added = rw (new.0, new.1)

-- ---- a group after its path

-- a group is added; 31 (3): slots above 65,536
abbrev adding : List ℕ → ℕ → ℕ → Parser ℕ
adding path index slots = cond (ltb 65536 slots) (fail 31 3 slots) (step (add_first path index slots))

-- index and slots of a group, after its path; then it is added
abbrev declared : List ℕ → Parser (ℕ × ℕ)
declared path = read number >>= λ index. read number >>= λ slots. adding path index slots >>= λ place. return (index, slots)

module _ (path : List ℕ) {r : BitReader} {m : List ℕ} (good : WellFormed m) where
  pub no_index : (q : Refusal) → Refuses (read_here r number) q → Refines (declared path) r r m m (Err q)
  no_index q e = read-stops number _ good q e

  module _ {index : ℕ} {d : BitReader} (g : Gave r (read_here r number) index d) where
    to-count : Simulates (declared path) r m (read number >>= λ slots. adding path index slots >>= λ place. return (index, slots)) d m
    to-count = read-on number _ good g

    pub no-count : (q : Refusal) → Refuses (read_here d number) q → Refines (declared path) r r m m (Err q)
    no-count q e = stops to-count q (read-stops number _ good q e)

    module _ {slots : ℕ} {e : BitReader} (f : Gave d (read_here d number) slots e) where
      to-adding : Simulates (declared path) r m (adding path index slots >>= λ place. return (index, slots)) e m
      to-adding = then to-count (read-on number _ good f)

      -- 31 (3): slots above 65,536
      pub too_many : 65536 < slots → Simulates (declared path) r m (fail 31 3 slots) r m
      too_many h =
          let q : Refusal = record { reason = CountOverflow; a = 3; b = slots } in
          stops to-adding q (rw (lt-ltb 65536 slots h) (bind-stop _ q (stays good)))

      module _ (h : slots ≤ 65536) where
        pub not-added : (q : Refusal) {m' : List ℕ} → NotTaken (add_first path index slots (held m)) q m m'
            → Refines (declared path) r r m m' (Err q)
        not-added q t = stops to-adding q (rw (le-ltb 65536 slots h) (bind-stop _ q (not_taken _ good t)))

        pub added : {place : ℕ} {m' : List ℕ} → Taken (add_first path index slots (held m)) place m m'
            → Simulates (declared path) r m (return (index, slots)) e m'
        added t = then to-adding (rw (le-ltb 65536 slots h) (bind _ (taken _ t)))

-- ---- a group with its slots

abbrev slots_of : ℕ × ℕ → Parser ℕ
slots_of p = sum_from p.1 0 (block_slot p.0)

-- a group of a block after its path, as the definition reads it
abbrev after_path : List ℕ → Parser ℕ
after_path path = read number >>= λ index. read number >>= λ slots. adding path index slots >>= λ place. sum_from slots 0 (block_slot index)

-- the group, in its two parts, gives what the definition gives
declared_same : (path : List ℕ) (pos : ℕ) (l : List ℕ) (c : Content) (t : Increments)
    → (declared path >>= slots_of) pos l c t ≡ after_path path pos l c t
unfolding ◌>>=◌ bind_parsed return
declared_same path pos l c t =
    assoc _ slots_of (read number) pos l c t
    ∙ onward-same _ _ (λ index pos l c t.
    assoc _ slots_of (read number) pos l c t
    ∙ onward-same _ _ (λ slots. assoc (λ place. return (index, slots)) slots_of (adding path index slots)) (read number) pos l c t)
    (read number) pos l c t

module _ {r : BitReader} {m : List ℕ} (good : WellFormed m) where
  pub no-path : (q : Refusal) → Refuses (read_here r fstring) q → Refines block_group r r m m (Err q)
  unfolding block_group
  no-path q e = read-stops fstring _ good q e

  module _ {scratch : List ℕ} {n : ℕ} {d : BitReader} (x : TextRead r (read_here r fstring) scratch n d) where
    to-following : Simulates block_group r m (after_path (take n scratch)) d m
    unfolding block_group
    to-following = read-on fstring _ good (scratch-gave x)

    to-declared : Simulates block_group r m (declared (take n scratch) >>= slots_of) d m
    to-declared = then to-following (alike good (λ t. sym (declared_same (take n scratch) d.pos (rest_of d) (held m) t)))

    pub group-refused : (q : Refusal) {m' : List ℕ} → Refines (declared (take n scratch)) d d m m' (Err q)
        → Refines block_group r r m m' (Err q)
    group-refused q g = stops to-declared q (bind-stop _ q g)

    pub group-then : (index slots : ℕ) {e : BitReader} {m' : List ℕ} → Simulates (declared (take n scratch)) d m (return (index, slots)) e m'
        → (f : BitReader) (m'' : List ℕ) (o : Result ℕ Refusal) → CountReads (sum_from slots 0 (block_slot index)) e f m' m'' 65536 o
        → CountReads block_group r f m m'' 65536 o
    group-then index slots g f m'' o h = count-then (then to-declared (bind _ g)) f m'' 65536 o h
