-- The slots of a written group are read back (document 01, Blocks): each is set in the last group of a book, whose slots from that place on
-- are still empty.
use Rattle.std.specs.Prelude.{◌≡◌, refl, List, [], ◌∷◌, ◌++◌, ℕ, suc, ◌+◌, ◌<◌, ℤ, set, replicate}
use Rattle.std.proofs.Common.{sym, ap, ◌∙◌, append-nil, add-zero, arith}
use Rattle.std.proofs.Math.Bool.{true}
use Rattle.std.proofs.Math.Dec.{eqb}
use Rattle.std.proofs.Math.ListN.{length, get_or, length-append}
use Rattle.std.proofs.lemmas.List.{length-replicate}
use Rattle.std.proofs.Math.Seq.{get_or-append_seam, set-append_seam, append_snoc}
use borrow.Author.Tests.{lt-ltb, le-ltb, eq-eqb}
use Rattle.vrf_bitio.specs.Number.{byte, word32, int32, signed, encode_word32, encode_packed}
use Rattle.vrf_bitio.proofs.Laws.Reading.{Decodes, decodes-return, decodes-then, decodes-last}
use Rattle.vrf_bitio.proofs.Laws.Number.{word32-decodes}
use Rattle.vrf_text.specs.Text.{IsText, fstring, encode_text}
use Rattle.vrf_text.proofs.Laws.Text.{fstring-encode_text}
use Rattle.vrf_names.specs.Names.{rendered, suffix}
use Rattle.vrf_model.specs.Book.{Guid, Slot, empty, filled, Group, Allowances, Content, no_increment, sum, group_text, group_fields, slot_text, slot_fields, held_text, held_fields}
use Rattle.vrf_model.specs.Lookup.{index_place, slot_at}
use Rattle.vrf_model.specs.Setting.{done, alter, with_groups, with_slot, renames, renamed_step, set_field_at, set_field}
use Rattle.vrf_model.specs.Names.{fname, text_name, limited}
use Rattle.vrf_model.specs.Parser.{sum_from}
use Rattle.vrf_model.specs.Block.{same_handle, block_field, block_slot}
use Rattle.vrf_model.specs.Writer.{encode_slot, encode_slots}
use Rattle.vrf_model.specs.Lawful.{Each, cons, Is32, LawfulSlot, WithinAllowances}
use Rattle.vrf_model.proofs.Laws.Places.{last_place-hit, place_or-last, alter-last}
use Rattle.vrf_model.proofs.Laws.Held.{sum-append, sum-last, sum-none, keep-within, listed}
use Rattle.vrf_model.proofs.Laws.Parser.{none-add, ParsesTo, parses-return, parses-step, quiet_then, parses-last, then-return, parses-read, byte-decodes, parses-byte, parses-word, parses-number}

-- ---- a name as the writer sends it: kind 0, the text, the number 0

zero-decodes : Decodes int32 (encode_word32 0) (ℤ.pos 0)
unfolding int32 signed
zero-decodes = decodes-last word32 _ (encode_word32 0) (word32-decodes 0 (omega arith)) (decodes-return (ℤ.pos 0))

-- with the number 0 a name is its text, and it is within the limit 41
plain-decodes : (n : List ℕ) → IsText n → Decodes (limited (rendered n (ℤ.pos 0))) [] n
unfolding limited rendered suffix
plain-decodes n text = rw (append-nil n, le-ltb 4096 (length n) text.short) (decodes-return n)

text-name-decodes : (n : List ℕ) → IsText n → Decodes text_name (encode_text n ++ encode_word32 0) n
unfolding text_name
text-name-decodes n text =
    decodes-then fstring _ (encode_text n) (encode_word32 0) (fstring-encode_text n text)
    (decodes-last int32 _ (encode_word32 0) zero-decodes (plain-decodes n text))

name-decodes : (n : List ℕ) → IsText n → Decodes fname (0 ∷ (encode_text n ++ encode_word32 0)) n
unfolding fname
name-decodes n text = decodes-then byte _ (0 ∷ []) (encode_text n ++ encode_word32 0) (byte-decodes 0) (text-name-decodes n text)

-- ---- a group whose first slots are b, and whose n others are still empty

unfoldable pub partial : List ℕ → ℕ → List Slot → ℕ → Group
partial path index b n = record { path = path; index = index; slots = b ++ replicate n empty }

partial-fields : (path : List ℕ) (index : ℕ) (b : List Slot) (n : ℕ) → group_fields (partial path index b n) ≡ sum slot_fields b
unfolding group_fields partial slot_fields
partial-fields path index b n = rw (sum-append slot_fields b (replicate n empty), sum-none slot_fields n refl) (add-zero _)

partial-text : (path : List ℕ) (index : ℕ) (b : List Slot) (n : ℕ) → group_text (partial path index b n) ≡ length path + sum slot_text b
unfolding group_text partial slot_text
partial-text path index b n = rw (sum-append slot_text b (replicate n empty), sum-none slot_text n refl, add-zero)

handle-parses : (h : ℕ) (c : Content) → ParsesTo (same_handle h h) [] tt c c no_increment
unfolding same_handle
handle-parses h c = rw (eq-eqb h h refl) (parses-return tt c)

module _ (a : Allowances) (guids : List Guid) (p : List Group) (path : List ℕ) (index : ℕ) where
  -- content whose last group has the slots b, then n empty ones
  abbrev pub with-slots : List Slot → ℕ → Content
  with-slots b n = listed a guids (p ++ (partial path index b n ∷ []))

  -- with only the slots b filled, the content is within the allowances too
  pub fewer-within : (b l : List Slot) (m n : ℕ) → WithinAllowances (with-slots (b ++ l) m) → WithinAllowances (with-slots b n)
  unfolding held_fields held_text
  fewer-within b l m n w =
      let f = simp (sum-last, partial-fields, sum-append) at w.fields in
      let t = simp (sum-last, partial-text, sum-append) at w.text in
      let g = simp length-append at w.groups in
      record {
        guids = w.guids;
        groups = rw length-append g;
        fields = simp (sum-last, partial-fields) (omega arith);
        text = simp (sum-last, partial-text) (omega arith);
      }

  -- ---- one slot

  still-empty : (b : List Slot) (n : ℕ) → with-slots b (suc n) ≡ with-slots (b ++ (empty ∷ [])) n
  unfolding partial
  still-empty b n = rw (append_snoc b empty (replicate n empty))

  -- a field is set in its slot. The slot is empty, so nothing is renamed
  field-set : (checksum : ℕ) (name : List ℕ) (b : List Slot) (n : ℕ) → WithinAllowances (with-slots (b ++ (filled checksum name ∷ [])) n)
      → set_field index (length b) checksum name (with-slots b (suc n)) ≡ done true (with-slots (b ++ (filled checksum name ∷ [])) n) no_increment
  unfolding set_field set_field_at index_place with_groups with_slot partial slot_at renames renamed_step no_increment
  field-set checksum name b n w =
      rw (
        last_place-hit (λ x. eqb x.index index) g p (eq-eqb index index refl),
        place_or-last (λ (x : Group). length x.slots) 0 p g,
        lt-ltb _ _ inside,
        groups-set,
        place_or-last (λ (x : Group). get_or x.slots (length b) empty) empty p g,
        get_or-append_seam b empty (replicate n empty) empty,
      )
      (keep-within true (with-slots (b ++ (s ∷ [])) n) _ w)
    where
      s : Slot
      s = filled checksum name

      g : Group
      g = partial path index b (suc n)

      inside : length b < length (b ++ replicate (suc n) empty)
      inside = rw (length-append, length-replicate) (omega arith)

      slots_set : set (b ++ replicate (suc n) empty) (length b) s ≡ (b ++ (s ∷ [])) ++ replicate n empty
      slots_set = set-append_seam b empty (replicate n empty) s ∙ sym (append_snoc b s (replicate n empty))

      groups-set : alter (with_slot (length b) s) (p ++ (g ∷ [])) (length p) ≡ p ++ (partial path index (b ++ (s ∷ [])) n ∷ [])
      groups-set = rw (alter-last (with_slot (length b) s) p g) (ap (λ (l : List Slot). p ++ (record { path = path; index = index; slots = l } ∷ [])) slots_set)

  field-parses : (checksum : ℕ) (name : List ℕ) (b : List Slot) (n : ℕ) → Is32 (length b) → Is32 checksum → IsText name → WithinAllowances (with-slots (b ++ (filled checksum name ∷ [])) n)
      → ParsesTo (block_field index (length b)) (encode_packed (length b) ++ (encode_word32 checksum ++ (0 ∷ (encode_text name ++ encode_word32 0)))) 1
      (with-slots b (suc n)) (with-slots (b ++ (filled checksum name ∷ [])) n) no_increment
  unfolding block_field
  field-parses checksum name b n hb hc hn w =
      let c = with-slots b (suc n) in
      quiet_then _ (parses-number (length b) hb c)
      (quiet_then _ (handle-parses (length b) c)
      (quiet_then _ (parses-word checksum hc c)
      (rw (← none-add no_increment) (parses-last _ (parses-read fname (name-decodes name hn) c)
      (then-return _ (parses-step (set_field index (length b) checksum name) c (field-set checksum name b n w)))))))

  slot-parses : (b : List Slot) (s : Slot) (n : ℕ) → Is32 (length b) → LawfulSlot s → WithinAllowances (with-slots (b ++ (s ∷ [])) n)
      → ParsesTo (block_slot index (length b)) (encode_slot (length b) s) (slot_fields s) (with-slots b (suc n)) (with-slots (b ++ (s ∷ [])) n) no_increment
  unfolding block_slot encode_slot slot_fields
  slot-parses b empty n hb good w = rw (← still-empty b n) (quiet_then _ (parses-byte 0 _) (parses-return 0 _))
  slot-parses b (filled checksum name) n hb good w = quiet_then _ (parses-byte 1 _) (field-parses checksum name b n hb good.0 good.1 w)

  -- ---- all slots

  -- the slots l are read after the slots b
  abbrev SlotsBrought : List Slot → List Slot → Type 0
  SlotsBrought b l = ParsesTo (sum_from (length l) (length b) (block_slot index)) (encode_slots (length b) l) (sum slot_fields l) (with-slots b (length l)) (with-slots (b ++ l) 0) no_increment

  no-slots : (b : List Slot) → SlotsBrought b []
  unfolding sum_from encode_slots sum
  no-slots b = rw (append-nil b) (parses-return 0 _)

  one-slot : (b : List Slot) (s : Slot) (l : List Slot) → Is32 (length b) → LawfulSlot s
      → WithinAllowances (with-slots ((b ++ (s ∷ [])) ++ l) 0) → SlotsBrought (b ++ (s ∷ [])) l → SlotsBrought b (s ∷ l)
  unfolding sum_from encode_slots sum
  one-slot b s l hb good w rest =
      let this = slot-parses b s (length l) hb good (fewer-within (b ++ (s ∷ [])) l 0 (length l) w) in
      rw (← append_snoc b s l) (quiet_then _ this (then-return (λ n. slot_fields s + n) (rw (length-append b (s ∷ [])) at rest)))

  pub slots-parse : (b l : List Slot) → Is32 (length b + length l) → Each LawfulSlot l → WithinAllowances (with-slots (b ++ l) 0) → SlotsBrought b l
  slots-parse b [] few good w = no-slots b
  slots-parse b (s ∷ l) few (cons g gs) w =
      let w' : WithinAllowances (with-slots ((b ++ (s ∷ [])) ++ l) 0) = rw (append_snoc b s l) w in
      one-slot b s l (omega arith) g w' (slots-parse (b ++ (s ∷ [])) l (rw length-append (omega arith)) gs w')
