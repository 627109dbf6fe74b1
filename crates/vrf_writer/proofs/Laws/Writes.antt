-- The three answers of the writer (44, 45 and a length), each from what the code compares. The proofs of `src/write.rt` use these laws.
use Rattle.std.specs.Prelude.{◌≡◌, ℕ, ◌<◌, ◌≤◌, min, ◌⊎◌, List, [], length, Result, Ok, Err}
use Rattle.std.proofs.Common.{sym, inl, inr, arith}
use Rattle.std.proofs.Math.Option.{none, some}
use Rattle.std.proofs.Math.Decide.{dec_lt}
use Rattle.vrf_bitio.specs.Pasted.{pasted}
use Rattle.vrf_bitio.specs.declared.Reason.TheVariants.{PathIsEarlierKey, BlockTooLong}
use Rattle.vrf_bitio.specs.declared.Refusal.{Refusal}
use Rattle.vrf_model.specs.Book.{Content}
use Rattle.vrf_model.specs.Writer.{encode_book, first_clash}
use Rattle.vrf_model.proofs.Laws.Clash.{first-clash, no-clash}
use Rattle.vrf_model.proofs.Laws.Writer.{writing}
use Rattle.vrf_writer.specs.Writes.{WritesBook}

module _ (c : Content) {l l' : List ℕ} where
  pub writes-clash : {place : ℕ} → some place ≡ first_clash [] c.groups → l' ≡ l → WritesBook c l l' (Err (record { reason = PathIsEarlierKey; a = place; b = 0 }))
  writes-clash {place} e s = record { answer = sym (((writing (length l) c).clashes place).1 ((first-clash c.groups place).0 (sym e))); bytes = s }

  module _ {n : ℕ} (clear : first_clash [] c.groups ≡ none) (e : n ≡ length (encode_book c)) where
    pub writes-long : {r : Result ℕ Refusal} → r ≡ Err (record { reason = BlockTooLong; a = n; b = 0 }) → min (length l) 268435456 < n → l' ≡ l → WritesBook c l l' r
    writes-long er long s =
        let over : (length l < n) ⊎ (268435456 < n) = elim (dec_lt (length l) n) [ yes h ↦ inl h | no h ↦ inr (omega (arith, long)) ] in
        rw er (record { answer = sym (((writing (length l) c).too_long n).1 (record { clear = (no-clash c.groups).0 clear; over = rw e at over; long = e })); bytes = s })

    pub writes-all : n ≤ min (length l) 268435456 → l' ≡ pasted l 0 (encode_book c) → WritesBook c l l' (Ok n)
    writes-all fits s = record {
      answer = sym (((writing (length l) c).accepted n).1 (record { clear = (no-clash c.groups).0 clear; fits = omega (arith, fits, e); size = omega (arith, fits, e); long = e }));
      bytes = s;
    }
