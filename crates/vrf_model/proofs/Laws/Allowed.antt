-- No step and no reader changes the allowances of a book. Used in Laws/Calls.antt.
use Rattle.std.specs.Prelude.{◌≡◌, Bool, cond, ◌||◌, eqb, leb, ltb}
use Rattle.std.proofs.Math.Path.{refl}
use Rattle.std.proofs.Common.{◌∙◌}
use Rattle.std.proofs.Math.Bool.{true, false}
use mathlib.Core.List.{List, [], ◌∷◌}
use Rattle.std.proofs.Math.Option.{Option, none, some}
use Prim.Native.Nat.{ℕ, zero, suc, ◌+◌, ◌-◌, ◌/◌, ◌%◌, ◌^◌}
use Rattle.std.proofs.Math.ListN.{length}
use Rattle.vrf_bitio.specs.Reading.{Read, ok, refused, Reader}
use Rattle.vrf_bitio.proofs.Laws.Cases.{by_cond}
use Rattle.vrf_model.specs.Book.{Allowances, Content, Increments, passed, fresh}
use Rattle.vrf_model.specs.Lookup.{place_or, path_place, index_place, guid_place}
use Rattle.vrf_model.specs.Setting.{Step, done, refuses, unless_passed, keep, with_guids, with_groups, has_path, set_guid_at, set_guid, merge, add_group_at, add_group, set_field_at, set_field, clear}
use Rattle.vrf_model.specs.Parser.{Parsed, parsed, failed, Parser, return, fail, bind_parsed, ◌>>=◌, parsed_read, read, parsed_step, step, times, sum_from}
use Rattle.vrf_model.specs.Runs.{run_of, known, declared_group, group_of, exported_field, export_entry, fields_run, flags_of, skip_checksum, object_path, object_after, object_with_outer, object, object_at}
use Rattle.vrf_model.specs.Runs.{after_inner, inner_window, payload_of, guid_entry, guid_run}
use Rattle.vrf_model.specs.Block.{PathTable, PathRule, take_literal, literal, resolved, by_table, path_of_kind, block_guid, block_guids, is_found, add_first, same_handle, block_field, block_slot, block_group}
use Rattle.vrf_model.specs.Block.{zero_word, count_up_to, block_end, block}

-- ---- steps

-- the allowances after a step on the content c
abbrev pub step_allowed : {A : Type 0} → Content → Step A → Allowances
step_allowed c (done a d t) = d.allowed
step_allowed c (refuses n a b) = c.allowed

abbrev pub StepKeeps : {A : Type 0} → Content → Step A → Type 0
StepKeeps c s = step_allowed c s ≡ c.allowed

kept : {A : Type 0} (a : A) (c d : Content) (t : Increments) → d.allowed ≡ c.allowed → StepKeeps c (keep a d t)
unfolding keep unless_passed
kept a c d t e = go (passed d)
  where
    go : (o : Option ℕ) → StepKeeps c (unless_passed o a d t)
    go none = e
    go (some which) = refl

module _ (c : Content) where
  pub set_guid-keeps : (guid : ℕ) (path : List ℕ) (outer : ℕ) → StepKeeps c (set_guid guid path outer c)
  unfolding set_guid set_guid_at with_guids
  set_guid-keeps guid path outer = go (guid_place guid c.guids)
    where
      go : (o : Option ℕ) → StepKeeps c (set_guid_at guid path outer c o)
      go none = kept tt c _ _ refl
      go (some i) = by_cond (StepKeeps c) (place_or (has_path path outer) false c.guids i) (λ _. refl) (λ _. kept tt c _ _ refl)

  pub add_group-keeps : (path : List ℕ) (index slots : ℕ) → StepKeeps c (add_group path index slots c)
  unfolding add_group add_group_at merge with_groups
  add_group-keeps path index slots = go (path_place path c.groups) (index_place index c.groups)
    where
      go : (o q : Option ℕ) → StepKeeps c (add_group_at path index slots c o q)
      go none none = kept _ c _ _ refl
      go none (some j) = kept j c _ _ refl
      go (some i) none = kept i c _ _ refl
      go (some i) (some j) = by_cond (StepKeeps c) (eqb i j) (λ _. kept i c _ _ refl) (λ _. refl)

  pub set_field-keeps : (index handle checksum : ℕ) (name : List ℕ) → StepKeeps c (set_field index handle checksum name c)
  unfolding set_field set_field_at with_groups
  set_field-keeps index handle checksum name = go (index_place index c.groups)
    where
      go : (o : Option ℕ) → StepKeeps c (set_field_at handle checksum name c o)
      go none = refl
      go (some i) = by_cond (StepKeeps c) (ltb handle (place_or (λ g. length g.slots) 0 c.groups i)) (λ _. kept true c _ _ refl) (λ _. refl)

  pub clear-keeps : StepKeeps c (clear c)
  unfolding clear fresh
  clear-keeps = refl

-- ---- readers

abbrev pub parsed_allowed : {A : Type 0} → Parsed A → Allowances
parsed_allowed (parsed a p l c t) = c.allowed
parsed_allowed (failed n a b c t) = c.allowed

pub record ReaderKeeps {A : Type 0} (r : Parser A) : Type 0 where
  pub left : (pos : ℕ) (l : List ℕ) (c : Content) (t : Increments) → parsed_allowed (r pos l c t) ≡ c.allowed

module _ {A : Type 0} where
  keeps-return : (a : A) → ReaderKeeps (return a)
  unfolding return
  keeps-return a = record { left = λ pos l c t. refl }

  keeps-fail : (n a b : ℕ) → ReaderKeeps {A = A} (fail n a b)
  unfolding fail
  keeps-fail n a b = record { left = λ pos l c t. refl }

  keeps-cond : (b : Bool) {x y : Parser A} → ReaderKeeps x → ReaderKeeps y → ReaderKeeps (cond b x y)
  keeps-cond b hx hy = by_cond ReaderKeeps b (λ _. hx) (λ _. hy)

  keeps-read : (r : Reader A) → ReaderKeeps (read r)
  unfolding read parsed_read
  keeps-read r = record { left = λ pos l c t. go c t (r pos l) }
    where
      go : (c : Content) (t : Increments) (x : Read A) → parsed_allowed (parsed_read c t x) ≡ c.allowed
      go c t (ok a p m) = refl
      go c t (refused n a b) = refl

  keeps-step : (s : Content → Step A) → ((c : Content) → StepKeeps c (s c)) → ReaderKeeps (step s)
  unfolding step parsed_step
  keeps-step s h = record { left = λ pos l c t. go pos l c t (s c) (h c) }
    where
      go : (pos : ℕ) (l : List ℕ) (c : Content) (t : Increments) (x : Step A) → StepKeeps c x → parsed_allowed (parsed_step pos l c t x) ≡ c.allowed
      go pos l c t (done a d n) e = e
      go pos l c t (refuses n a b) e = refl

  infixl 20 ◌and-then◌
  ◌and-then◌ : {B : Type 0} {r : Parser A} {f : A → Parser B} → ReaderKeeps r → ((a : A) → ReaderKeeps (f a)) → ReaderKeeps (r >>= f)
  unfolding ◌>>=◌ bind_parsed
  ◌and-then◌ {B} {r} {f} h k = record { left = λ pos l c t. go (r pos l c t) ∙ h.left pos l c t }
    where
      go : (x : Parsed A) → parsed_allowed (bind_parsed f x) ≡ parsed_allowed x
      go (parsed a p l c t) = (k a).left p l c t
      go (failed n a b c t) = refl

  keeps-inner : {r : Parser A} → ReaderKeeps r → (window : List ℕ) → ReaderKeeps (inner_window r window)
  unfolding inner_window after_inner
  keeps-inner {r} h window = record { left = λ pos l c t. go pos l (r 0 window c t) ∙ h.left 0 window c t }
    where
      go : (pos : ℕ) (l : List ℕ) (x : Parsed A) → parsed_allowed (after_inner pos l x) ≡ parsed_allowed x
      go pos l (parsed a p [] c t) = refl
      go pos l (parsed a p (b ∷ m) c t) = refl
      go pos l (failed n a b c t) = refl

keeps-times : (n : ℕ) {r : Parser (Unit {0})} → ReaderKeeps r → ReaderKeeps (times n r)
unfolding times
keeps-times zero h = keeps-return tt
keeps-times (suc n) h = h and-then λ _. keeps-times n h

keeps-sum : (n i : ℕ) {r : ℕ → Parser ℕ} → ((k : ℕ) → ReaderKeeps (r k)) → ReaderKeeps (sum_from n i r)
unfolding sum_from
keeps-sum zero i h = keeps-return 0
keeps-sum (suc n) i h = h i and-then λ a. keeps-sum n (i + 1) h and-then λ b. keeps-return (a + b)

-- ---- runs

known-keeps : (index : ℕ) (c : Content) (o : Option ℕ) → StepKeeps c (known index c o)
unfolding known
known-keeps index c none = refl
known-keeps index c (some i) = refl

entry-keeps : ReaderKeeps export_entry
unfolding export_entry group_of declared_group exported_field
entry-keeps =
    keeps-read _ and-then λ index. keeps-read _ and-then λ flag.
    (keeps-cond (eqb flag 0) (keeps-step _ (λ c. known-keeps index c (index_place index c.groups)))
    (keeps-cond (eqb flag 1)
    (keeps-read _ and-then λ path. keeps-read _ and-then λ slots. keeps-cond (ltb 65536 slots) (keeps-fail 22 slots 0) (keeps-step _ (λ c. add_group-keeps c path index slots)) and-then λ place. keeps-return tt)
    (keeps-fail 21 index flag))) and-then λ _.
    keeps-read _ and-then λ hasField.
    keeps-cond (eqb hasField 0) (keeps-return tt)
    (keeps-read _ and-then λ handle. keeps-read _ and-then λ checksum. keeps-read _ and-then λ name. keeps-step _ (λ c. set_field-keeps c index handle checksum name) and-then λ placed. keeps-return tt)

run-keeps : {entry : Parser (Unit {0})} → ReaderKeeps entry → ReaderKeeps (run_of entry)
unfolding run_of
run-keeps h = keeps-read _ and-then λ n. keeps-times n h and-then λ _. keeps-return n

pub fields_run-keeps : ReaderKeeps fields_run
unfolding fields_run
fields_run-keeps = run-keeps entry-keeps

flags-keep : (exporting : Bool) (guid : ℕ) → ReaderKeeps (flags_of exporting guid)
unfolding flags_of
flags-keep exporting guid = keeps-cond (exporting || eqb guid 1) (keeps-read _) (keeps-return 0)

checksum-keeps : (flags : ℕ) → ReaderKeeps (skip_checksum flags)
unfolding skip_checksum
checksum-keeps flags = keeps-cond (eqb (flags / 4 % 2) 1) (keeps-read _ and-then λ checksum. keeps-return tt) (keeps-return tt)

object-keeps : (left : ℕ) (exporting : Bool) → ReaderKeeps (object left exporting)
unfolding object object_with_outer object_after object_path
object-keeps zero exporting = keeps-fail 26 16 0
object-keeps (suc left) exporting =
    keeps-read _ and-then λ guid.
    keeps-cond (eqb guid 0) (keeps-return 0)
    (flags-keep exporting guid and-then λ flags.
    keeps-cond (eqb (flags % 2) 1)
    (object-keeps left exporting and-then λ outer. keeps-read _ and-then λ path. checksum-keeps flags and-then λ _.
    keeps-step _ (λ c. set_guid-keeps c guid path outer) and-then λ _. keeps-return guid)
    (keeps-return guid))

pub object_at-keeps : (depth : ℕ) (exporting : Bool) → ReaderKeeps (object_at depth exporting)
unfolding object_at
object_at-keeps depth exporting = object-keeps (16 - depth) exporting

pub guid_run-keeps : ReaderKeeps guid_run
unfolding guid_run guid_entry payload_of
guid_run-keeps = run-keeps entry
  where
    entry : ReaderKeeps guid_entry
    entry =
        keeps-read _ and-then λ size.
        keeps-cond (leb (2 ^ 31) size) (keeps-fail 24 size 0) (keeps-read _ and-then λ payload. keeps-inner (object_at-keeps 0 true) payload) and-then λ guid.
        keeps-return tt

-- ---- blocks

-- the readers of a rule keep the allowances
pub record RuleKeeps (rule : PathRule) : Type 0 where
  pub place : (entry : ℕ) (t : PathTable) → ReaderKeeps (rule.place entry t)
  pub text : (t : PathTable) → ReaderKeeps (rule.text t)

taken : (n : ℕ) (c : Content) → StepKeeps c (take_literal n c)
unfolding take_literal
taken n c = by_cond (StepKeeps c) (ltb c.allowed.literals n) (λ _. refl) (λ _. refl)

pub by_table-keeps : RuleKeeps by_table
unfolding by_table resolved literal
by_table-keeps = record {
  place = λ entry t. keeps-read _ and-then λ place. keeps-cond (ltb place (length t.paths)) (keeps-return _) (keeps-fail 33 entry place);
  text = λ t. keeps-read _ and-then λ path. keeps-step _ (taken (t.literals + 1)) and-then λ _. keeps-return _;
}

module _ {rule : PathRule} (h : RuleKeeps rule) where
  guids-keep : (n entry : ℕ) (t : PathTable) → ReaderKeeps (block_guids rule n entry t)
  unfolding block_guids block_guid path_of_kind
  guids-keep zero entry t = keeps-return t
  guids-keep (suc n) entry t =
      (keeps-read _ and-then λ guid. keeps-read _ and-then λ outer. keeps-read _ and-then λ kind.
      keeps-cond (eqb kind 0) (h.place entry t) (keeps-cond (eqb kind 1) (h.text t) (keeps-fail 32 entry kind)) and-then λ p.
      keeps-read _ and-then λ flags. keeps-step _ (λ c. set_guid-keeps c guid p.0 outer) and-then λ _. keeps-return p.1) and-then λ t'.
      guids-keep n (entry + 1) t'

add_first-keeps : (path : List ℕ) (index slots : ℕ) (c : Content) → StepKeeps c (add_first path index slots c)
unfolding add_first
add_first-keeps path index slots c = by_cond (StepKeeps c) (is_found (index_place index c.groups) || is_found (path_place path c.groups)) (λ _. refl) (λ _. add_group-keeps c path index slots)

slot-keeps : (index slot : ℕ) → ReaderKeeps (block_slot index slot)
unfolding block_slot block_field same_handle
slot-keeps index slot =
    keeps-read _ and-then λ exported.
    keeps-cond (eqb exported 0) (keeps-return 0)
    (keeps-read _ and-then λ handle. keeps-cond (eqb handle slot) (keeps-return tt) (keeps-fail 35 slot handle) and-then λ _. keeps-read _ and-then λ checksum. keeps-read _ and-then λ name.
    keeps-step _ (λ c. set_field-keeps c index handle checksum name) and-then λ placed. keeps-return 1)

group-keeps : ReaderKeeps block_group
unfolding block_group
group-keeps =
    keeps-read _ and-then λ path. keeps-read _ and-then λ index. keeps-read _ and-then λ slots.
    keeps-cond (ltb 65536 slots) (keeps-fail 31 3 slots) (keeps-step _ (add_first-keeps path index slots)) and-then λ place.
    keeps-sum slots 0 (slot-keeps index)

zero-keeps : (at : ℕ) → ReaderKeeps (zero_word at)
unfolding zero_word
zero-keeps at = keeps-read _ and-then λ w. keeps-cond (eqb w 0) (keeps-return tt) (keeps-fail 30 at w)

count-keeps : (which top : ℕ) → ReaderKeeps (count_up_to which top)
unfolding count_up_to
count-keeps which top = keeps-read _ and-then λ n. keeps-cond (ltb top n) (keeps-fail 31 which n) (keeps-return n)

end-keeps : (w : ℕ) → ReaderKeeps (block_end w)
unfolding block_end
end-keeps w = keeps-read _ and-then λ p. keeps-cond (eqb (p / 8) (w + 8)) (keeps-return _) (keeps-fail 36 (p / 8) (w + 8))

pub block-keeps : {rule : PathRule} → RuleKeeps rule → ReaderKeeps (block rule)
unfolding block
block-keeps h =
    keeps-read _ and-then λ w. zero-keeps 4 and-then λ z4. zero-keeps 8 and-then λ z8. zero-keeps 12 and-then λ z12.
    count-keeps 1 1000000 and-then λ guids. guids-keep h guids 0 _ and-then λ t.
    count-keeps 2 100000 and-then λ groups. keeps-sum groups 0 (λ _. group-keeps) and-then λ fields.
    end-keeps w and-then λ frame. keeps-return _
