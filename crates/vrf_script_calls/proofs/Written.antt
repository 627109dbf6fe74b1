-- A block that was written is inside the buffer that was lent for it, and is not longer than a window may be.
use Rattle.std.specs.Prelude.{Result, Ok, Err, IfOk}
use Rattle.std.proofs.Common.{◌≡◌, ◌≤◌, ℕ, Bool, true, false, List, length, sym, refl, arith}
use Rattle.vrf_bitio.specs.declared.Refusal.{Refusal}
use Rattle.vrf_model.specs.Writer.{written, not_written}
use Rattle.vrf_model.proofs.Laws.Writer.{write-accepts}
use Rattle.vrf_store.specs.Check.{check}
use Rattle.vrf_schema.specs.WriteContract.{WriteContract}
use Rattle.vrf_script_calls.specs.Inner.Blocks.{KeptIn}

no_length : {A : Type 0} {n a b c : ℕ} → written n ≡ not_written a b c → A
no_length e = let z : ◌≡◌ {A = ℕ} 0 1 = cc in absurd (omega arith)

pub wrote-in : {m before after : List ℕ} (r : Result ℕ Refusal) → WriteContract m before after r → IfOk r (KeptIn (length before))
wrote-in (Err r) h = tt
wrote-in {m} {before} (Ok n) h = by (check m) refl
  where
    by : (b : Bool) → check m ≡ b → KeptIn (length before) n
    by false s = no_length (h.corrupt s).answer
    by true s = let a = write-accepts (length before) _ (sym (h.wrote s).answer) in omega (arith, a.fits, a.size, a.long)

-- a block that is written into a part of a buffer is not longer than the buffer
pub wrote-within : (m n : ℕ) (o : Result ℕ Refusal) → m ≤ n → IfOk o (KeptIn m) → IfOk o (KeptIn n)
wrote-within m n (Ok size) le h = omega (arith, le, h)
wrote-within m n (Err q) le h = tt
