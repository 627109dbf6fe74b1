-- The proof of demand 1 (`Demand-1`) from the contracts of the exported functions.
use Rattle.std.specs.Prelude.{◌≡◌, refl, Bool, true, false, List, ◌⊎◌, ℕ, ◌<◌, ◌≤◌, length, take}
use Rattle.std.proofs.Common.{sym, ◌∙◌, inl, inr, zero-add, arith, length-take}
use Rattle.std.proofs.Math.Path.{ap, subst}
use Rattle.vrf_bitio.proofs.Laws.Cases.{clash}
use Rattle.vrf_words.specs.Words.{word, part}
use Rattle.vrf_words.proofs.Laws.Words.{word-part}
use Rattle.vrf_model.specs.Book.{Book, filled}
use Rattle.vrf_model.specs.Calls.{Call, add_export_group, set_field_on_group, Answer, refusal-of, field_placed, at_place, run_book}
use Rattle.vrf_model.specs.Untouched.{IsReader, PlacedAlone, OneGroup}
use Rattle.vrf_model.proofs.Laws.Untouched.{field-call-alone, adding-call-alone}
use Rattle.vrf_model.proofs.Laws.Calls.{refused-changes-nothing}
use Rattle.vrf_store.specs.Layout
use Rattle.vrf_store.specs.Store.{allowances_of, content_of, book_of}
use Rattle.vrf_store.specs.Check.{check}
use Rattle.vrf_store.proofs.Laws.Memory.Check.{check-good}
use Rattle.vrf_store.proofs.Laws.Check.Accepted.{valid-lawful}
use Rattle.vrf_schema.specs.CallContract.{Corrupt, CallContract}
use Rattle.vrf_schema.specs.Demand1.{LawfulBook, Demand-1}

-- ---- every memory is refused or lawful

-- a memory that passes its check holds a lawful book
pub accepted-lawful : (m : List ℕ) → check m ≡ true → LawfulBook m
unfolding book_of content_of
accepted-lawful m good = valid-lawful (check-good m good).valid

-- a call is refused with 2 and leaves the memory as it was, or it works on a lawful book and leaves a lawful book
refused_or_lawful : {k : Call} {m m' : List ℕ} {r : Answer} → CallContract k m m' r → Corrupt m m' r ⊎ (LawfulBook m × LawfulBook m')
refused_or_lawful {k} {m} {m'} {r} c = by (check m) refl
  where
    by : (b : Bool) → check m ≡ b → Corrupt m m' r ⊎ (LawfulBook m × LawfulBook m')
    by false e = inl (c.corrupt e)
    by true e = inr (accepted-lawful m e, accepted-lawful m' (c.ran e).accepted)

-- ---- a memory that is cut

-- a memory that is cut below the need of the allowances in its header fails the check
cut-fails : (m : List ℕ) (n : ℕ) → n < Layout.need (allowances_of m) → check (take n m) ≡ false
unfolding part
cut-fails m n h = by (check (take n m)) refl
  where
    by : (b : Bool) → check (take n m) ≡ b → b ≡ false
    by false e = refl
    by true e =
        let enough = (check-good (take n m) e).enough in
        let long : length (take n m) ≤ n = rw (length-take n m) (omega arith) in
        let same : (i : ℕ) → i < 5 → word (take n m) i ≡ word m i = λ i k. rw zero-add at (word-part m 0 n i (omega (arith, enough, long, k))) in
        absurd (omega (arith, enough, long, h, same 0 (omega arith), same 1 (omega arith), same 2 (omega arith), same 3 (omega arith), same 4 (omega arith)))

cut_refused : {k : Call} {m' : List ℕ} {r : Answer} (m : List ℕ) (n : ℕ) → n < Layout.need (book_of m).content.allowed → CallContract k (take n m) m' r → Corrupt (take n m) m' r
unfolding book_of content_of
cut_refused m n h c = c.corrupt (cut-fails m n h)

-- ---- refused calls

-- a call whose answer is not 2 was made on a book that passes its check
passes : {k : Call} {m m' : List ℕ} {r : Answer} → CallContract k m m' r → (r ≡ refusal-of 2 0 0 → ⊥) → check m ≡ true
passes {m = m} c other = by (check m) refl
  where
    by : (b : Bool) → check m ≡ b → b ≡ true
    by true e = refl
    by false e = absurd (other (c.corrupt e).answer)

-- a refused call that is not a reader leaves the GUID and group lists as they were
refused_keeps : {k : Call} {m m' : List ℕ} {n a b : ℕ} → (IsReader k → ⊥) → CallContract k m m' (refusal-of n a b) → (book_of m').content ≡ (book_of m).content
unfolding run_book
refused_keeps {k} {m} {m'} {n} {a} {b} other c = by (check m) refl
  where
    by : (x : Bool) → check m ≡ x → (book_of m').content ≡ (book_of m).content
    by false e = ap (λ (l : List ℕ). (book_of l).content) (c.corrupt e).kept
    by true e = let ran = c.ran e in ap (λ (x : Book). x.content) ran.book ∙ (refused-changes-nothing k other (book_of m).content (sym ran.answer)).0

-- ---- accepted fields and added groups

module _ {m m' : List ℕ} where
  field_alone : {index handle checksum : ℕ} {name : List ℕ} → CallContract (set_field_on_group index handle checksum name) m m' (field_placed true)
      → PlacedAlone index handle (filled checksum name) (book_of m).content (book_of m').content
  unfolding run_book
  field_alone {index} {handle} {checksum} {name} c =
      let ran = c.ran (passes c (λ e. clash cc)) in
      let lists = ap (λ (x : Book). x.content) ran.book in
      subst (PlacedAlone index handle (filled checksum name) (book_of m).content) (sym lists) (field-call-alone index handle checksum name (book_of m).content (sym ran.answer))

  group_alone : {path : List ℕ} {index slots place : ℕ} → CallContract (add_export_group path index slots) m m' (at_place place) → OneGroup place path index (book_of m).content (book_of m').content
  unfolding run_book
  group_alone {path} {index} {slots} {place} c =
      let ran = c.ran (passes c (λ e. clash cc)) in
      let lists = ap (λ (x : Book). x.content) ran.book in
      subst (OneGroup place path index (book_of m).content) (sym lists) (adding-call-alone path index slots (book_of m).content (sym ran.answer))

pub demand-1 : Demand-1
demand-1 = record { refused_or_lawful = refused_or_lawful; cut_refused = cut_refused; refused_keeps = refused_keeps; field_alone = field_alone; group_alone = group_alone }
