-- No call changes the allowances. A refused call changes nothing, unless it is a reader. Used for demands 1 and 3 in `vrf_schema`.
use Rattle.std.specs.Prelude.{◌≡◌, List, ℕ, ltb}
use Rattle.std.proofs.Math.Path.{refl}
use Rattle.std.proofs.Common.{◌∙◌, arith}
use Rattle.vrf_bitio.specs.Reading.{Read, ok, refused}
use Rattle.vrf_bitio.specs.Window.{window}
use Rattle.vrf_text.specs.Text.{CallerText, accepted, refusal, caller_text}
use Rattle.vrf_bitio.proofs.Laws.Cases.{by_cond}
use Rattle.vrf_model.specs.Book.{Content, no_increment}
use Rattle.vrf_model.specs.Setting.{Step, done, refuses}
use Rattle.vrf_model.specs.Parser.{Parsed, parsed, failed, Parser}
use Rattle.vrf_model.specs.Calls.{Window, Call, clear_book, add_export_group, set_field_on_group, set_net_guid_path, read_net_field_exports, read_export_guids, load_object, read_checkpoint_tables, lookup}
use Rattle.vrf_model.specs.Calls.{Answer, refusal-of, Result, unchanged, of_step, of_parsed, read_opened, read_window, if_text_accepted, add_directly, run}
use Rattle.vrf_model.specs.Untouched.{IsReader}
use Rattle.vrf_model.proofs.Laws.Allowed.{StepKeeps, set_guid-keeps, add_group-keeps, set_field-keeps, clear-keeps, parsed_allowed, ReaderKeeps, fields_run-keeps, object_at-keeps, guid_run-keeps, by_table-keeps, block-keeps}

-- ---- the allowances do not change

module _ (c : Content) where
  step-allowed : {A : Type 0} (f : A → Answer) (s : Step A) → StepKeeps c s → (of_step f c s).content.allowed ≡ c.allowed
  unfolding of_step unchanged
  step-allowed f (done a d t) e = e
  step-allowed f (refuses n a b) e = refl

  text-keeps : {A : Type 0} (x : CallerText) (s : Step A) → StepKeeps c s → StepKeeps c (if_text_accepted refuses x s)
  unfolding if_text_accepted
  text-keeps accepted s e = e
  text-keeps (refusal n a b) s e = refl

  adding-keeps : (path : List ℕ) (index slots : ℕ) → StepKeeps c (add_directly path index slots c)
  unfolding add_directly
  adding-keeps path index slots = by_cond (StepKeeps c) (ltb 65536 slots) (λ _. refl) (λ _. add_group-keeps c path index slots)

  window-allowed : {A : Type 0} (w : Window) (f : A → ℕ → Answer) {r : Parser A} → ReaderKeeps r → (read_window w f r c).content.allowed ≡ c.allowed
  unfolding read_window read_opened of_parsed unchanged
  window-allowed {A} w f {r} h = opened (window w.bytes w.first w.count)
    where
      ended : (x : Parsed A) → (of_parsed f x).content.allowed ≡ parsed_allowed x
      ended (parsed a p l d t) = refl
      ended (failed n a b d t) = refl

      opened : (x : Read (ℕ × ℕ)) → (read_opened f r c x).content.allowed ≡ c.allowed
      opened (ok v p l) = ended (r p l c no_increment) ∙ h.left p l c no_increment
      opened (refused n a b) = refl

pub run-allowed : (call : Call) (c : Content) → (run call c).content.allowed ≡ c.allowed
unfolding run unchanged
run-allowed clear_book c = step-allowed c _ _ (clear-keeps c)
run-allowed (add_export_group path index slots) c = step-allowed c _ _ (text-keeps c (caller_text path) _ (adding-keeps c path index slots))
run-allowed (set_field_on_group index handle checksum name) c = step-allowed c _ _ (text-keeps c (caller_text name) _ (set_field-keeps c index handle checksum name))
run-allowed (set_net_guid_path guid path outer) c = step-allowed c _ _ (text-keeps c (caller_text path) _ (set_guid-keeps c guid path outer))
run-allowed (read_net_field_exports w) c = window-allowed c w _ fields_run-keeps
run-allowed (read_export_guids w) c = window-allowed c w _ guid_run-keeps
run-allowed (load_object w exporting depth) c = window-allowed c w _ (object_at-keeps depth exporting)
run-allowed (read_checkpoint_tables w) c = window-allowed c w _ (block-keeps by_table-keeps)
run-allowed (lookup l) c = refl

-- ---- a refused call changes nothing, unless it is a reader

abbrev pub Unchanged : Content → Result → Type 0
Unchanged c r = (r.content ≡ c) × (r.counted ≡ no_increment)

-- an accepted step answers no refusal
refused-step : {n a b : ℕ} (c : Content) {A : Type 0} (f : A → Answer) (s : Step A) → ((x : A) → f x ≡ refusal-of n a b → ◌≡◌ {A = ℕ} 0 1) → (of_step f c s).answer ≡ refusal-of n a b → Unchanged c (of_step f c s)
unfolding of_step unchanged
refused-step c f (done x c' t) never e = absurd (let z = never x e in omega arith)
refused-step c f (refuses m d g) never e = (refl, refl)

pub refused-changes-nothing : (call : Call) → (IsReader call → ⊥) → (c : Content) {n a b : ℕ} → (run call c).answer ≡ refusal-of n a b → Unchanged c (run call c)
unfolding run unchanged
refused-changes-nothing clear_book z c e = refused-step c _ _ (λ x q. cc) e
refused-changes-nothing (add_export_group path index slots) z c e = refused-step c _ _ (λ x q. cc) e
refused-changes-nothing (set_field_on_group index handle checksum name) z c e = refused-step c _ _ (λ x q. cc) e
refused-changes-nothing (set_net_guid_path guid path outer) z c e = refused-step c _ _ (λ x q. cc) e
refused-changes-nothing (read_net_field_exports w) z c e = absurd (z tt)
refused-changes-nothing (read_export_guids w) z c e = absurd (z tt)
refused-changes-nothing (load_object w exporting depth) z c e = absurd (z tt)
refused-changes-nothing (read_checkpoint_tables w) z c e = absurd (z tt)
refused-changes-nothing (lookup l) z c e = (refl, refl)
