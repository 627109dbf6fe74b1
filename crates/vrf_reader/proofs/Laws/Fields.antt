-- An export run: one law for each path through each function of `fields`. Used by their proofs.
use Rattle.std.specs.Prelude.{◌≡◌, ◌≢◌, Bool, cond, List, ℕ, Result, Err, ◌≤◌, ◌<◌, eqb, ltb, take}
use Rattle.std.proofs.Common.{sym, ◌∙◌}
use Rattle.std.proofs.Math.Option.{none, some}
use borrow.Author.Tests.{ne_eqb, lt-ltb, le-ltb}
use Rattle.vrf_bitio.specs.Number.{byte, word32, packed}
use Rattle.vrf_bitio.specs.Reasons.{number}
use Rattle.vrf_bitio.specs.Answers.{rest_of, read_here, Gave, Refuses}
use Rattle.vrf_bitio.specs.declared.BitReader.{BitReader}
use Rattle.vrf_bitio.specs.declared.Reason.TheVariants.{TooManySlots}
use Rattle.vrf_bitio.specs.declared.Refusal.{Refusal}
use Rattle.vrf_text.specs.Text.{fstring}
use Rattle.vrf_model.specs.Book.{Content, Increments}
use Rattle.vrf_model.specs.Lookup.{index_place}
use Rattle.vrf_model.specs.Setting.{add_group, set_field}
use Rattle.vrf_model.specs.Names.{fname}
use Rattle.vrf_model.specs.Parser.{Parser, return, fail, bind_parsed, ◌>>=◌, read, parsed_step, step}
use Rattle.vrf_model.specs.Runs.{known, declared_group, group_of, exported_field, export_entry}
use Rattle.vrf_model.proofs.Laws.Parser.{add_none}
use Rattle.vrf_store.specs.Inner.WellFormed.{WellFormed}
use Rattle.vrf_store.specs.Inner.Stepped.{held}
use Rattle.vrf_cache.specs.Inner.Taken.{Taken, NotTaken}
use Rattle.vrf_reader.specs.Inner.Simulates.{Simulates, Refines}
use Rattle.vrf_reader.specs.Inner.Texts.{TextRead}
use Rattle.vrf_reader.specs.Inner.Fields.{field_read, field_then, field_of}
use Rattle.vrf_reader.proofs.Laws.Simulates.{alike, stays, taken, not_taken, then, bind, bind-stop, read-on, read-stops, stops, reads}
use Rattle.vrf_reader.proofs.Laws.Chained.{assoc, onward-same}
use Rattle.vrf_reader.proofs.Laws.Texts.{scratch-gave}

-- ---- a field after its handle

module _ (index handle : ℕ) {r d : BitReader} {m : List ℕ} (good : WellFormed m)
    {checksum : ℕ} (g : Gave r (read_here r word32) checksum d) where
  pub no_name : (q : Refusal) → Refuses (read_here d fname) q → Refines (field_read index handle) r r m m (Err q)
  no_name q e = stops (read-on word32 _ good g) q (read-stops fname _ good q e)

  module _ {scratch : List ℕ} {n : ℕ} {e : BitReader} (x : TextRead d (read_here d fname) scratch n e) where
    to-setting : Simulates (field_read index handle) r m (step (set_field index handle checksum (take n scratch)) >>= λ placed. return tt) e m
    to-setting = then (read-on word32 _ good g) (read-on fname _ good (scratch-gave x))

    module _ {m' : List ℕ} where
      pub field-refused : {q : Refusal} → NotTaken (set_field index handle checksum (take n scratch) (held m)) q m m'
          → Refines (field_read index handle) r r m m' (Err q)
      field-refused {q} h = stops to-setting q (bind-stop _ q (not_taken _ good h))

      -- whether or not it is placed
      pub field-set : {placed : Bool} → Taken (set_field index handle checksum (take n scratch) (held m)) placed m m'
          → Simulates (field_read index handle) r m (return tt) e m'
      field-set h = then to-setting (bind _ (taken _ h))

-- what follows a field, in an export or a block, starts where the code's field ended
module _ (index handle : ℕ) {A : Type 0} (k : Parser A) where
  followed : (pos : ℕ) (l : List ℕ) (c : Content) (t : Increments)
      → (field_read index handle >>= λ u. k) pos l c t ≡ field_then index handle k pos l c t
  unfolding return ◌>>=◌ bind_parsed
  followed pos l c t =
      assoc _ (λ u. k) (read word32) pos l c t
      ∙ onward-same _ _ (λ checksum pos l c t.
      assoc _ (λ u. k) (read fname) pos l c t
      ∙ onward-same _ _ (λ name. assoc _ (λ u. k) (step (set_field index handle checksum name))) (read fname) pos l c t)
      (read word32) pos l c t

  module _ {r : BitReader} {m : List ℕ} (good : WellFormed m) where
    as-followed : Simulates (field_then index handle k) r m (field_read index handle >>= λ u. k) r m
    as-followed = alike good (λ t. sym (followed r.pos (rest_of r) (held m) t))

    pub field-then : {d : BitReader} {m' : List ℕ} → Simulates (field_read index handle) r m (return tt) d m'
        → Simulates (field_then index handle k) r m k d m'
    field-then g = then as-followed (bind _ g)

    pub field-stops : {d : BitReader} {m' : List ℕ} (q : Refusal) → Simulates (field_read index handle) r m (fail (number q.reason) q.a q.b) d m'
        → Simulates (field_then index handle k) r m (fail (number q.reason) q.a q.b) d m'
    field-stops q g = then as-followed (bind-stop _ q g)

-- ---- the byte before a field

module _ (index : ℕ) {r d : BitReader} {m : List ℕ} (good : WellFormed m) {flag : ℕ} (g : Gave r (read_here r byte) flag d) where
  to-field : Simulates (field_of index) r m (cond (eqb flag 0) (return tt) (exported_field index)) d m
  unfolding field_of
  to-field = read-on byte _ good g

  pub field-absent : flag ≡ 0 → Simulates (field_of index) r m (return tt) d m
  field-absent z = rw z at to-field

  pub field-present : flag ≢ 0 → (d' : BitReader) (m' : List ℕ) (o : Result (Unit {0}) Refusal)
      → Refines (exported_field index) d d' m m' o → Refines (field_of index) r d' m m' o
  field-present z = reads (rw (ne_eqb flag 0 z) at to-field)

-- ---- a declared group

module _ (index : ℕ) {r d : BitReader} {m : List ℕ} (good : WellFormed m)
    {scratch : List ℕ} {n : ℕ} (x : TextRead r (read_here r fstring) scratch n d) where
  pub no-slots : (q : Refusal) → Refuses (read_here d packed) q → Refines (declared_group index) r r m m (Err q)
  unfolding declared_group
  no-slots q e = stops (read-on fstring _ good (scratch-gave x)) q (read-stops packed _ good q e)

  module _ {slots : ℕ} {e : BitReader} (g : Gave d (read_here d packed) slots e) where
    to-adding : Simulates (declared_group index) r m
        (cond (ltb 65536 slots) (fail 22 slots 0) (step (add_group (take n scratch) index slots)) >>= λ place. return tt) e m
    unfolding declared_group
    to-adding = then (read-on fstring _ good (scratch-gave x)) (read-on packed _ good g)

    pub too_many : 65536 < slots → Simulates (declared_group index) r m (fail 22 slots 0) r m
    too_many h =
        let q : Refusal = record { reason = TooManySlots; a = slots; b = 0 } in
        stops to-adding q (rw (lt-ltb 65536 slots h) (bind-stop _ q (stays good)))

    module _ (few : slots ≤ 65536) {m' : List ℕ} where
      pub adding-refused : {q : Refusal} → NotTaken (add_group (take n scratch) index slots (held m)) q m m'
          → Refines (declared_group index) r r m m' (Err q)
      adding-refused {q} h = stops to-adding q (rw (le-ltb 65536 slots few) (bind-stop _ q (not_taken _ good h)))

      pub group-added : {place : ℕ} → Taken (add_group (take n scratch) index slots (held m)) place m m'
          → Simulates (declared_group index) r m (return tt) e m'
      group-added h = then to-adding (rw (le-ltb 65536 slots few) (bind _ (taken _ h)))

-- ---- the group of an export

module _ (index : ℕ) {r : BitReader} {m : List ℕ} (good : WellFormed m) {flag : ℕ} where
  -- flag 0: a group has the index
  pub index-known : flag ≡ 0 → {i : ℕ} → some i ≡ index_place index (held m).groups → Simulates (group_of index flag) r m (return tt) r m
  unfolding group_of step parsed_step known return
  index-known z e = rw z (alike good (λ t. rw (← e, add_none t)))

  -- 20: no group has the index
  pub index-unknown : flag ≡ 0 → none ≡ index_place index (held m).groups → Simulates (group_of index flag) r m (fail 20 index 0) r m
  unfolding group_of step parsed_step known fail
  index-unknown z e = rw z (alike good (λ t. rw (← e)))

  -- 21: any other flag
  pub bad-flag : flag ≢ 0 → flag ≢ 1 → Simulates (group_of index flag) r m (fail 21 index flag) r m
  unfolding group_of
  bad-flag z y = rw (ne_eqb flag 0 z, ne_eqb flag 1 y) (stays good)

-- flag 1: a declared group
pub group-declared : (index : ℕ) {flag : ℕ} → flag ≡ 1 → (r d : BitReader) (m m' : List ℕ) (o : Result (Unit {0}) Refusal)
    → Refines (declared_group index) r d m m' o → Refines (group_of index flag) r d m m' o
unfolding group_of
group-declared index y r d m m' o h = rw y h

-- ---- one export

module _ {r d : BitReader} {m : List ℕ} (good : WellFormed m) {index : ℕ} (g : Gave r (read_here r packed) index d) where
  pub no_flag : (q : Refusal) → Refuses (read_here d packed) q → Refines export_entry r r m m (Err q)
  unfolding export_entry
  no_flag q e = stops (read-on packed _ good g) q (read-stops packed _ good q e)

  module _ {flag : ℕ} {e : BitReader} (f : Gave d (read_here d packed) flag e) where
    to-group : Simulates export_entry r m (group_of index flag >>= λ u. field_of index) e m
    unfolding export_entry field_of
    to-group = then (read-on packed _ good g) (read-on packed _ good f)

    pub group-refused : {m' : List ℕ} (q : Refusal) → Refines (group_of index flag) e e m m' (Err q) → Refines export_entry r r m m' (Err q)
    group-refused q h = stops to-group q (bind-stop _ q h)

    pub group-then : {e' : BitReader} {m' : List ℕ} → Simulates (group_of index flag) e m (return tt) e' m'
        → (d' : BitReader) (m'' : List ℕ) (o : Result (Unit {0}) Refusal) → Refines (field_of index) e' d' m' m'' o → Refines export_entry r d' m m'' o
    group-then h = reads (then to-group (bind _ h))
