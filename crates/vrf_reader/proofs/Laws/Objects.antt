-- `load_object`: one law for each path through each function of `objects`. Used by their proofs.
use Rattle.std.specs.Prelude.{◌≡◌, refl, ◌≢◌, Bool, true, false, cond, ◌||◌, List, ℕ, Result, Ok, Err, zero, suc, ◌-◌, ◌/◌, ◌%◌, eqb, take}
use Rattle.std.proofs.Common.{arith, eq-eqb, ne_eqb}
use Rattle.vrf_bitio.specs.Number.{byte, word32, packed}
use Rattle.vrf_bitio.specs.Answers.{read_here, Gave, Refuses, Answers}
use Rattle.vrf_bitio.specs.declared.BitReader.{BitReader}
use Rattle.vrf_bitio.specs.declared.Refusal.{Refusal}
use Rattle.vrf_text.specs.Text.{fstring}
use Rattle.vrf_model.specs.Setting.{set_guid}
use Rattle.vrf_model.specs.Parser.{Parser, return, fail, ◌>>=◌, step}
use Rattle.vrf_model.specs.Runs.{flags_of, skip_checksum, object_path, object_after, object_with_outer, object}
use Rattle.vrf_store.specs.Inner.WellFormed.{WellFormed}
use Rattle.vrf_store.specs.Inner.Stepped.{held}
use Rattle.vrf_cache.specs.Inner.Taken.{Taken, NotTaken}
use Rattle.vrf_reader.specs.Inner.Simulates.{Simulates, Refines, RefinesReading}
use Rattle.vrf_reader.specs.Inner.Texts.{TextRead}
use Rattle.vrf_reader.specs.Inner.Objects.{recorded}
use Rattle.vrf_reader.proofs.Laws.Simulates.{stays, answered, taken, not_taken, then, bind, bind-stop, read-on, read-stops, stops, reads}
use Rattle.vrf_reader.proofs.Laws.Texts.{scratch-gave}

-- ---- flags

module _ {r : BitReader} (exporting : Bool) (guid : ℕ) where
  pub flags-read : (exporting || eqb guid 1) ≡ true → (d : BitReader) (o : Result ℕ Refusal) → Answers r d (read_here r byte) o
      → RefinesReading (flags_of exporting guid) r d o
  unfolding flags_of
  flags-read h d o g = record { reads = λ m good. rw h (answered byte r d good o g) }

  pub flags-none : (exporting || eqb guid 1) ≡ false → RefinesReading (flags_of exporting guid) r r (Ok 0)
  unfolding flags_of
  flags-none h = record { reads = λ m good. rw h (stays good) }

-- ---- head

-- an object up to its flags, for every outer object
module _ {r : BitReader} (exporting : Bool) (outer : Parser ℕ) {m : List ℕ} (good : WellFormed m) where
  pub head-refused : (q : Refusal) → Refuses (read_here r packed) q → Refines (object_with_outer outer exporting) r r m m (Err q)
  unfolding object_with_outer
  head-refused q e = read-stops packed _ good q e

  module _ {guid : ℕ} {d : BitReader} (g : Gave r (read_here r packed) guid d) where
    to-guid : Simulates (object_with_outer outer exporting) r m (cond (eqb guid 0) (return 0) (object_after outer exporting guid)) d m
    unfolding object_with_outer
    to-guid = read-on packed _ good g

    pub head-zero : guid ≡ 0 → Simulates (object_with_outer outer exporting) r m (return 0) d m
    head-zero z = rw (eq-eqb guid 0 z) at to-guid

    module _ (some : guid ≢ 0) where
      to-flags : Simulates (object_with_outer outer exporting) r m (object_after outer exporting guid) d m
      to-flags = rw (ne_eqb guid 0 some) at to-guid

      pub head-flagless : {e : BitReader} (q : Refusal) → RefinesReading (flags_of exporting guid) d e (Err q)
          → Refines (object_with_outer outer exporting) r r m m (Err q)
      unfolding object_after
      head-flagless q h = stops to-flags q (bind-stop _ q (h.reads m good))

      module _ {flags : ℕ} {e : BitReader} (h : RefinesReading (flags_of exporting guid) d e (Ok flags)) where
        to-path : Simulates (object_with_outer outer exporting) r m (cond (eqb (flags % 2) 1) (object_path outer guid flags) (return guid)) e m
        unfolding object_after
        to-path = then to-flags (bind _ (h.reads m good))

        pub head-path : flags % 2 ≡ 1 → Simulates (object_with_outer outer exporting) r m (object_path outer guid flags) e m
        head-path one = rw (eq-eqb (flags % 2) 1 one) at to-path

        pub head-ends : flags % 2 ≢ 1 → Simulates (object_with_outer outer exporting) r m (return guid) e m
        head-ends n = rw (ne_eqb (flags % 2) 1 n) at to-path

-- ---- checksum

module _ {r : BitReader} (flags : ℕ) where
  pub checksum-none : flags / 4 % 2 ≢ 1 → RefinesReading (skip_checksum flags) r r (Ok tt)
  unfolding skip_checksum
  checksum-none h = record { reads = λ m good. rw (ne_eqb (flags / 4 % 2) 1 h) (stays good) }

  module _ (h : flags / 4 % 2 ≡ 1) where
    pub checksum-read : {v : ℕ} {d : BitReader} → Gave r (read_here r word32) v d → RefinesReading (skip_checksum flags) r d (Ok tt)
    unfolding skip_checksum
    checksum-read g = record { reads = λ m good. rw (eq-eqb (flags / 4 % 2) 1 h) (read-on word32 _ good g) }

    pub checksum-refused : {d : BitReader} (q : Refusal) → Refuses (read_here r word32) q → RefinesReading (skip_checksum flags) r d (Err q)
    unfolding skip_checksum
    checksum-refused q e = record { reads = λ m good. rw (eq-eqb (flags / 4 % 2) 1 h) (read-stops word32 _ good q e) }

-- ---- record

module _ {r d : BitReader} (guid flags outer : ℕ) {m : List ℕ} (good : WellFormed m)
    {scratch : List ℕ} {n : ℕ} (t : TextRead r (read_here r fstring) scratch n d) where
  pub record-sumless : {e : BitReader} (q : Refusal) → RefinesReading (skip_checksum flags) d e (Err q) → Refines (recorded guid flags outer) r r m m (Err q)
  unfolding recorded
  record-sumless q h = stops (read-on fstring _ good (scratch-gave t)) q (bind-stop _ q (h.reads m good))

  module _ {e : BitReader} (h : RefinesReading (skip_checksum flags) d e (Ok tt)) where
    to-setting : Simulates (recorded guid flags outer) r m (step (set_guid guid (take n scratch) outer) >>= λ v. return guid) e m
    unfolding recorded
    to-setting = then (read-on fstring _ good (scratch-gave t)) (bind _ (h.reads m good))

    module _ {m' : List ℕ} where
      pub record-refused : {q : Refusal} → NotTaken (set_guid guid (take n scratch) outer (held m)) q m m'
          → Refines (recorded guid flags outer) r r m m' (Err q)
      record-refused {q} k = stops to-setting q (bind-stop _ q (not_taken _ good k))

      pub record-set : Taken (set_guid guid (take n scratch) outer (held m)) tt m m'
          → Simulates (recorded guid flags outer) r m (return guid) e m'
      record-set k = then to-setting (bind _ (taken _ k))

-- ---- an object and its outer object

-- 26: no depth left
pub too-deep : {r : BitReader} (left : ℕ) (exporting : Bool) {m : List ℕ} → WellFormed m → left ≡ 0
    → Simulates (object left exporting) r m (fail 26 16 0) r m
unfolding object
too-deep left exporting good z = rw z (stays good)

-- with depth left, an object is read with its outer object at one depth less
over : (left : ℕ) (exporting : Bool) → left ≢ 0 → object left exporting ≡ object_with_outer (object (left - 1) exporting) exporting
unfolding object
over zero exporting h = absurd (h refl)
over (suc left) exporting h = let e : suc left - 1 ≡ left = omega arith in rw e

module _ {r : BitReader} (left : ℕ) (exporting : Bool) (deep : left ≢ 0) {m : List ℕ} where
  pub object-refused : (q : Refusal) → Refines (object_with_outer (object (left - 1) exporting) exporting) r r m m (Err q)
      → Refines (object left exporting) r r m m (Err q)
  object-refused q h = rw (over left exporting deep) h

  pub object-ends : (guid : ℕ) {d : BitReader} → Simulates (object_with_outer (object (left - 1) exporting) exporting) r m (return guid) d m
      → Simulates (object left exporting) r m (return guid) d m
  object-ends guid h = rw (over left exporting deep) h

  module _ (guid flags : ℕ) {d : BitReader}
      (h : Simulates (object_with_outer (object (left - 1) exporting) exporting) r m (object_path (object (left - 1) exporting) guid flags) d m) where
    to-outer : Simulates (object left exporting) r m (object_path (object (left - 1) exporting) guid flags) d m
    to-outer = rw (over left exporting deep) h

    pub outer-refused : {m' : List ℕ} (q : Refusal) → Refines (object (left - 1) exporting) d d m m' (Err q)
        → Refines (object left exporting) r r m m' (Err q)
    unfolding object_path
    outer-refused q k = stops to-outer q (bind-stop _ q k)

    pub outer-then : {m' : List ℕ} (outer : ℕ) {e : BitReader} → Simulates (object (left - 1) exporting) d m (return outer) e m'
        → (d' : BitReader) (m'' : List ℕ) (o : Result ℕ Refusal) → Refines (recorded guid flags outer) e d' m' m'' o
        → Refines (object left exporting) r d' m m'' o
    unfolding object_path recorded
    outer-then outer k = reads (then to-outer (bind (recorded guid flags) k))
