-- The two cases of `CountersContract`, refused and read. The proof of `get_counters` uses them.
use Rattle.std.specs.Prelude.{◌≡◌, refl, Bool, true, false, List, ℕ, Ok, Err}
use Rattle.std.proofs.Math.Path.{sym}
use Rattle.std.proofs.Common.{ap, ◌∙◌, true≢false}
use Rattle.vrf_bitio.specs.Reasons.{number}
use Rattle.vrf_bitio.proofs.Laws.Determined.{same-details}
use Rattle.vrf_bitio.specs.declared.Reason.TheVariants.{CorruptBook}
use Rattle.vrf_bitio.specs.declared.Refusal.{Refusal}
use Rattle.vrf_text.specs.Text.{accepted, refusal}
use Rattle.vrf_store.specs.Store.{counters_of, book_of}
use Rattle.vrf_store.specs.Check.{check}
use Rattle.vrf_store.specs.declared.counters.BookCounters.{BookCounters}
use Rattle.vrf_schema.specs.CountersContract.{counters_from, CountersContract}
use Rattle.vrf_schema.specs.Checked.{CheckedText, text_after_check}
use Rattle.vrf_schema.proofs.Laws.Checked.{admitted, no-refusal}

pub counters-refused : {m : List ℕ} (r : Refusal) → CheckedText m accepted (Err r) → CountersContract m (Err r)
counters-refused {m} r a = by (check m) refl a.answer
  where
    by : (b : Bool) → check m ≡ b → text_after_check b accepted ≡ refusal (number r.reason) r.a r.b → CountersContract m (Err r)
    by false s n = record { corrupt = λ _. ap Err (same-details r (record { reason = CorruptBook; a = 0; b = 0 }) (cc) (cc) cc); counted = λ t. absurd (true≢false (sym t ∙ s)) }
    by true s n = no-refusal n

pub counters-read : {m : List ℕ} {c : BookCounters} → CheckedText m accepted (Ok tt) → counters_of m ≡ counters_from c → CountersContract m (Ok c)
unfolding book_of
counters-read a e = record { corrupt = λ s. absurd (true≢false (sym (admitted a).checked ∙ s)); counted = λ _. sym e }
