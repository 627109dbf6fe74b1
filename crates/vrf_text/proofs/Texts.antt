-- A text on the wire, put into a target. Its bytes or units are those left at the reader, one final zero is dropped, and the answer depends
-- on what they are as UTF-8, and on the target's length.
use mathlib.Core.Bool.{Bool, true, false, cond}
use mathlib.Core.List.{List}
use mathlib.Core.Option.{Option as Maybe, none, some}
use mathlib.Core.Path.{◌≡◌, refl, sym, ap, ◌∙◌}
use Prim.Native.Nat.{ℕ, zero, suc, ◌+◌, ◌-◌, ◌*◌, ◌/◌, ◌≤◌, ◌<◌}
use native.Mathlib.Omega.{arith}
use lib.Dec.{eqb}
use lib.ListN.{length}
use borrow.Author.Tests.{lt-ltb, le-ltb}
use Rattle.std.specs.Prelude.{Ok, Err}
use Rattle.vrf_bitio.specs.Bits.{bits_of, bytes_of}
use Rattle.vrf_bitio.specs.Reading.{ok, refused, Reader, bind_read, ◌>>=◌}
use Rattle.vrf_bitio.specs.Reasons.{number}
use Rattle.vrf_bitio.specs.Window.{rest, copied}
use Rattle.vrf_bitio.specs.Pasted.{pasted}
use Rattle.vrf_bitio.specs.Inner.Reader.{moved}
use Rattle.vrf_bitio.specs.Answers.{rest_of, read_here, Gave, Refuses, CopiedAnswer}
use Rattle.vrf_bitio.proofs.Laws.Cases.{by_order, clash}
use Rattle.vrf_bitio.proofs.Laws.Runs.{runs, bytes_run}
use Rattle.vrf_bitio.proofs.Laws.Bits.{bytes_take, bytes_drop}
use Rattle.vrf_bitio.proofs.Laws.Reading.{bind_ok, bind-refused}
use Rattle.vrf_bitio.proofs.Laws.Window.{bytes-length, rest-length}
use Rattle.vrf_bitio.specs.declared.BitReader.{BitReader}
use Rattle.vrf_bitio.specs.declared.Refusal.{Refusal}
use Rattle.vrf_text.specs.Utf8.{utf8}
use Rattle.vrf_text.specs.Utf16.{units_to_utf8}
use Rattle.vrf_text.specs.Text.{text_bytes, drop_zero, as_utf8, checked, text8, text16, into_target}
use Rattle.vrf_text.specs.Inner.Steps.{bit_at, TakesText, into, RoomAnswer}
use Rattle.vrf_text.specs.Inner.Spans.{units_of}
use Rattle.vrf_text.proofs.Laws.Text.{text_bytes-ok}
use Rattle.vrf_text.proofs.Runs.{run-trim, units-run, packed-run}

-- ---- the bytes of a text

module _ (r : BitReader) (start w n : ℕ) where
  bytes-there : n ≤ 1048576 → 8 * n ≤ r.count - r.pos
      → read_here r (text_bytes start w n) ≡ ok (bytes_of r.«data».now (bit_at r) n) (r.pos + 8 * n) (rest_of (moved r (8 * n)))
  unfolding rest
  bytes-there few left =
      let m : ℕ = (r.count - r.pos) / 8 in
      let in-it : n ≤ m = omega arith in
      let after : m - n ≡ (r.count - (r.pos + 8 * n)) / 8 = omega arith in
      let bit : bit_at r + 8 * n ≡ r.first + (r.pos + 8 * n) = omega arith in
      text_bytes-ok start w n r.pos (rest_of r) few (rw (bytes-length r.«data».now (bit_at r) m) in-it)
      ∙ rw (bytes_take r.«data».now (bit_at r) n m in-it, bytes_drop r.«data».now (bit_at r) n m, after, bit)

  bytes-lack : (8 * n ≤ 8 * 1048576 → r.count - r.pos < 8 * n) → read_here r (text_bytes start w n) ≡ refused 13 start w
  unfolding text_bytes
  bytes-lack h = by_order n 1048576
      (λ few. let lack : (r.count - r.pos) / 8 < n = omega (arith, h (omega arith)) in
      rw (rest-length r.«data».now r.first r.count r.pos, le-ltb 1048576 n few, lt-ltb ((r.count - r.pos) / 8) n lack))
      λ many. rw (lt-ltb 1048576 n many)

-- one final zero dropped, of bytes or of units
trim : (w : ℕ) (s : List ℕ) (q n : ℕ) {last k : ℕ} → 0 < n → last ≡ bits_of s (q + w * (n - 1)) w → k ≡ cond (eqb last 0) (n - 1) n
    → drop_zero (runs w s q n) ≡ runs w s q k
trim w s q zero h el ek = absurd (omega arith)
trim w s q (suc n) {last} {k} h el ek =
    let e : suc n - 1 ≡ n = omega arith in
    let l : eqb (bits_of s (q + w * n) w) 0 ≡ eqb last 0 = rw (el, e) in
    run-trim w s q n (eqb last 0) l ∙ ap (runs w s q) (sym (rw e at ek))

-- ---- a reading whose bytes are all there: what they are as UTF-8, and the reader after them; and one whose bytes are too many or lack

module _ (r : BitReader) (start w n : ℕ) where
  module _ {last k : ℕ} (h : 0 < n) (ek : k ≡ cond (eqb last 0) (n - 1) n) where
    bytes-reached : 8 * n ≤ 8 * 1048576 → 8 * n ≤ r.count - r.pos → last ≡ bits_of r.«data».now (bit_at r + 8 * (n - 1)) 8
        → read_here r (text8 start w n) ≡ read_here (moved r (8 * n)) (checked start (as_utf8 (bytes_of r.«data».now (bit_at r) k)))
    unfolding text8
    bytes-reached few left el =
        let s : List ℕ = r.«data».now in
        let z : drop_zero (bytes_of s (bit_at r) n) ≡ bytes_of s (bit_at r) k
        = rw (bytes_run s (bit_at r) n, bytes_run s (bit_at r) k) (trim 8 s (bit_at r) n h el ek) in
        bind_ok (text_bytes start w n) _ r.pos (rest_of r) (bytes-there r start w n (omega arith) left)
        ∙ ap (λ (b : List ℕ). checked start (as_utf8 b) (r.pos + 8 * n) (rest_of (moved r (8 * n)))) z

    units-reached : 16 * n ≤ 8 * 1048576 → 16 * n ≤ r.count - r.pos → last ≡ bits_of r.«data».now (bit_at r + 16 * (n - 1)) 16
        → read_here r (text16 start w n) ≡ read_here (moved r (16 * n)) (checked start (units_to_utf8 (units_of r.«data».now (bit_at r) k)))
    unfolding text16
    units-reached few left el =
        let s : List ℕ = r.«data».now in
        let z : drop_zero (units_of s (bit_at r) n) ≡ units_of s (bit_at r) k
        = rw (units-run s (bit_at r) n, units-run s (bit_at r) k) (trim 16 s (bit_at r) n h el ek) in
        let m : 8 * (2 * n) ≡ 16 * n = omega arith in
        bind_ok (text_bytes start w (2 * n)) _ r.pos (rest_of r) (bytes-there r start w (2 * n) (omega arith) (omega arith))
        ∙ ap (λ (b : List ℕ). checked start (units_to_utf8 b) (r.pos + 8 * (2 * n)) (rest_of (moved r (8 * (2 * n))))) z
        ∙ ap (λ (k' : ℕ). checked start (units_to_utf8 (units_of s (bit_at r) k)) (r.pos + k') (rest_of (moved r k'))) m

    module _ (d : BitReader) (at : ℕ) where
      pub bytes-taken : TakesText r d start w (8 * n) (Ok at) → last ≡ bits_of d.«data».now (at + 8 * (n - 1)) 8
          → read_here r (text8 start w n) ≡ read_here (moved r (8 * n)) (checked start (as_utf8 (bytes_of d.«data».now at k)))
      bytes-taken t el = rw (t.2, t.3) (bytes-reached t.0 t.1 (rw (t.2, t.3) at el))

      pub units-taken : TakesText r d start w (16 * n) (Ok at) → last ≡ bits_of d.«data».now (at + 16 * (n - 1)) 16
          → read_here r (text16 start w n) ≡ read_here (moved r (16 * n)) (checked start (units_to_utf8 (units_of d.«data».now at k)))
      units-taken t el = rw (t.2, t.3) (units-reached t.0 t.1 (rw (t.2, t.3) at el))

  module _ (m : ℕ) (d : BitReader) (e : Refusal) where
    pub bytes-refused : TakesText r d start w (8 * n) (Err e) → Refuses (read_here r (into m (text8 start w n))) e
    unfolding text8
    bytes-refused h =
        rw h.1 (bind-refused (text8 start w n) (into_target m) r.pos (rest_of r) (bind-refused (text_bytes start w n) _ r.pos (rest_of r) (bytes-lack r start w n h.0)))

    pub units-refused : TakesText r d start w (16 * n) (Err e) → Refuses (read_here r (into m (text16 start w n))) e
    unfolding text16
    units-refused h =
        let lack : 8 * (2 * n) ≤ 8 * 1048576 → r.count - r.pos < 8 * (2 * n) = λ few. omega (arith, h.0 (omega arith)) in
        rw h.1 (bind-refused (text16 start w n) (into_target m) r.pos (rest_of r) (bind-refused (text_bytes start w (2 * n)) _ r.pos (rest_of r) (bytes-lack r start w (2 * n) lack)))

-- each answer of a reading whose bytes are all there
module _ (m : ℕ) (r d : BitReader) (f : Reader (List ℕ)) (start bits : ℕ) (o : Maybe (List ℕ)) (e : read_here r f ≡ read_here (moved r bits) (checked start o)) where
  reached : (o' : Maybe (List ℕ)) → o ≡ o' → read_here r (into m f) ≡ read_here (moved r bits) (into m (checked start o'))
  unfolding ◌>>=◌
  reached o' q = ap (bind_read (into_target m)) (e ∙ ap (λ (o : Maybe (List ℕ)). read_here (moved r bits) (checked start o)) q)

  pub bad-text : (x : Refusal) → o ≡ none → (number x.reason ≡ 14) × (x.a ≡ start) × (x.b ≡ 0) → Refuses (read_here r (into m f)) x
  unfolding checked ◌>>=◌ bind_read
  bad-text x q k = rw (k.0, k.1, k.2) (reached none q)

  module _ (t : List ℕ) (n : ℕ) (q : o ≡ some t) (l : n ≡ length t) where
    pub no-room : (x : Refusal) → RoomAnswer n m (Err x) → Refuses (read_here r (into m f)) x
    no-room x h = reached (some t) q ∙ h start t l _ _

    pub read-into : d ≡ moved r bits → RoomAnswer n m (Ok tt) → Gave r (read_here r (into m f)) t d
    unfolding checked ◌>>=◌ bind_read into_target
    read-into g h = rw g record {
      read = reached (some t) q ∙ rw (← l, le-ltb 4096 n h.0, into_target, ← l, le-ltb m n h.1);
      same = refl;
      first = refl;
      count = refl;
    }

-- a text of n bytes that a target of m bytes has no room for
module _ (m n start : ℕ) (t : List ℕ) (q : n ≡ length t) (p : ℕ) (l : List ℕ) where
  pub room-long : 4096 < n → into m (checked start (some t)) p l ≡ refused 41 n 0
  unfolding checked ◌>>=◌ bind_read
  room-long h = rw (← q, lt-ltb 4096 n h)

  pub room-short : n ≤ 4096 → m < n → into m (checked start (some t)) p l ≡ refused 15 (8 * n) (8 * m)
  unfolding checked ◌>>=◌ bind_read into_target
  room-short k h = rw (← q, le-ltb 4096 n k, into_target, ← q, lt-ltb m n h)

-- ---- a copy of k bytes into a target that is long enough

module _ (r : BitReader) (m k : ℕ) (fits : k ≤ m) (left : 8 * k ≤ r.count - r.pos) where
  copies : copied r.«data».now r.first r.count m (8 * k) r.pos ≡ ok (bytes_of r.«data».now (bit_at r) k) (r.pos + 8 * k) (rest_of (moved r (8 * k)))
  unfolding copied
  copies =
      let whole : (8 * k + 7) / 8 ≡ k = omega arith in
      rw (whole, le-ltb m k fits, le-ltb (r.count - r.pos) (8 * k) left, packed-run r.«data».now (bit_at r) k, bytes_run r.«data».now (bit_at r) k)

  module _ (d : BitReader) (before after : List ℕ) where
    pub copied-bytes : CopiedAnswer r d (copied r.«data».now r.first r.count m (8 * k) r.pos) before after (Ok tt) → after ≡ pasted before 0 (bytes_of r.«data».now (bit_at r) k)
    copied-bytes a =
        let f = sym copies ∙ a.1.0.read in
        let same : a.0 ≡ bytes_of r.«data».now (bit_at r) k = cc in
        a.1.1 ∙ ap (pasted before 0) same

    pub never-refused : {A : Type 0} (e : Refusal) → CopiedAnswer r d (copied r.«data».now r.first r.count m (8 * k) r.pos) before after (Err e) → A
    never-refused e a =
        let f = sym copies ∙ a.0 in
        clash (cc)

-- two texts of one option are equal
pub one-text : {o : Maybe (List ℕ)} {t v : List ℕ} → o ≡ some t → o ≡ some v → t ≡ v
one-text e f = cc

module _ (t : List ℕ) {r : Bool} (q : r ≡ utf8 t) where
  pub not-utf8 : r ≡ false → as_utf8 t ≡ none
  unfolding as_utf8
  not-utf8 e = rw (sym q ∙ e)

  pub is-utf8 : r ≡ true → as_utf8 t ≡ some t
  unfolding as_utf8
  is-utf8 e = rw (sym q ∙ e)
