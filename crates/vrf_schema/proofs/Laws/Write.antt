-- The two cases of `WriteContract`, refused by the check and not. The proof of `write_checkpoint_tables` uses them.
use Rattle.std.specs.Prelude.{◌≡◌, refl, Bool, true, false, List, ℕ, Result, Ok, Err}
use Rattle.std.proofs.Common.{sym, ◌∙◌, true≢false}
use Rattle.vrf_bitio.specs.Reasons.{number}
use Rattle.vrf_bitio.specs.declared.Refusal.{Refusal}
use Rattle.vrf_text.specs.Text.{accepted, refusal}
use Rattle.vrf_store.specs.Store.{book_of}
use Rattle.vrf_store.specs.Check.{check}
use Rattle.vrf_store.specs.Inner.Stepped.{held}
use Rattle.vrf_writer.specs.Writes.{WritesBook}
use Rattle.vrf_schema.specs.WriteContract.{WriteContract}
use Rattle.vrf_schema.specs.Checked.{text_after_check, CheckedText}
use Rattle.vrf_schema.proofs.Laws.Checked.{no-refusal, admitted}

pub not-written : {m before : List ℕ} (q : Refusal) → CheckedText m accepted (Err q) → WriteContract m before before (Err q)
not-written {m} {before} q a = by (check m) refl a.answer
  where
    by : (b : Bool) → check m ≡ b → text_after_check b accepted ≡ refusal (number q.reason) q.a q.b → WriteContract m before before (Err q)
    by true s n = no-refusal n
    by false s n = record { corrupt = λ _. record { answer = cc; kept = refl }; wrote = λ t. absurd (true≢false (sym t ∙ s)) }

pub written-by : {m before : List ℕ} → CheckedText m accepted (Ok tt) → {after : List ℕ} {r : Result ℕ Refusal} → WritesBook (held m) before after r → WriteContract m before after r
unfolding book_of
written-by a h = record { corrupt = λ s. absurd (true≢false (sym (admitted a).checked ∙ s)); wrote = λ _. h }
