-- A field name that is read is UTF-8 of at most 4,096 bytes.
use Rattle.std.specs.Prelude.{◌≡◌, true, List, ℕ, zero, suc, ◌*◌, ◌/◌, ◌^◌, ◌≤◌, ◌<◌, eqb, ltb, ℤ, length}
use Rattle.std.proofs.Common.{◌∙◌, zero-le, arith, length-append, ltb-true, ltb-false}
use Rattle.std.proofs.Math.Nat.{pow-succ'}
use Rattle.vrf_text.specs.Utf8.{utf8}
use Rattle.vrf_text.specs.Text.{IsText}
use Rattle.vrf_bitio.proofs.Laws.Cases.{by_cond}
use Rattle.vrf_text.proofs.Laws.Utf8.{utf8_append, ascii-utf8}
use Rattle.vrf_names.specs.Names.{digits, decimal, suffix, rendered}
use Rattle.vrf_model.specs.Names.{limited, text_name, index_name, fname}
use Rattle.vrf_model.specs.Lawful.{Each, nil, cons, Is32}
use Rattle.vrf_model.proofs.Laws.Each.{each_append, each_or}
use Rattle.vrf_model.proofs.Laws.Readings.{ReadsBytes, reads-return, reads-refused, reads_then, byte_reads, number-reads, int32-reads, fstring-reads}

-- ---- decimals and suffixes

abbrev Ascii : ℕ → Type 0
Ascii b = b ≤ 0x7F

digits-ascii : (most n : ℕ) → Each Ascii (digits most n)
unfolding digits
digits-ascii zero n = nil
digits-ascii (suc most) n =
    by_cond (Each Ascii) (ltb n 10) (λ e. cons (omega (arith, ltb-true n 10 e)) nil)
    λ _. each_append (digits-ascii most (n / 10)) (cons (omega arith) nil)

-- a number below 10^(k+1) has at most k+1 digits
digits-length : (most n k : ℕ) → n < 10 ^ suc k → length (digits most n) ≤ suc k
unfolding digits
digits-length zero n k h = zero-le
digits-length (suc most) n zero h = by_cond (λ (l : List ℕ). length l ≤ 1) (ltb n 10) (λ _. omega arith) (λ e. absurd (omega (arith, ltb-false n 10 e)))
digits-length (suc most) n (suc k) h =
    let h' : n < 10 * 10 ^ suc k = rw (← pow-succ' 10 (suc k)) h in
    let fewer = digits-length most (n / 10) k (omega arith) in
    by_cond (λ (l : List ℕ). length l ≤ suc (suc k)) (ltb n 10) (λ _. omega arith) (λ _. rw (length-append (digits most (n / 10))) (omega arith))

suffix-ascii : (z : ℤ) → Each Ascii (suffix z)
unfolding suffix decimal
suffix-ascii (ℤ.pos zero) = nil
suffix-ascii (ℤ.pos (suc n)) = cons {a = 95} (omega arith) (digits-ascii _ _)
suffix-ascii (ℤ.negsuc n) = cons {a = 95} (omega arith) (cons {a = 45} (omega arith) (digits-ascii _ _))

ascii-valid : {t : List ℕ} → Each Ascii t → utf8 t ≡ true
ascii-valid {t} h = ascii-utf8 t (each_or h zero-le)

rendered-valid : (base : List ℕ) (z : ℤ) → IsText base → utf8 (rendered base z) ≡ true
unfolding rendered
rendered-valid base z h = utf8_append base (suffix z) h.valid ∙ ascii-valid (suffix-ascii z)

decimal-text : (n : ℕ) → Is32 n → IsText (decimal n)
unfolding decimal
decimal-text n h = record { valid = ascii-valid (digits-ascii (suc n) n); short = omega (arith, digits-length (suc n) n 9 (omega arith)) }

-- ---- the readings

text_name-reads : ReadsBytes IsText text_name
unfolding text_name limited
text_name-reads =
    reads_then fstring-reads λ base text.
    reads_then int32-reads λ n _.
    by_cond (ReadsBytes IsText) (ltb 4096 (length (rendered base n))) (λ _. reads-refused)
    λ e. reads-return _ (record { valid = rendered-valid base n text; short = ltb-false 4096 (length (rendered base n)) e })

index_name-reads : ReadsBytes IsText index_name
unfolding index_name
index_name-reads = reads_then number-reads λ index small. reads-return _ (decimal-text index small)

pub fname-reads : ReadsBytes IsText fname
unfolding fname
fname-reads = reads_then byte_reads λ kind _. by_cond (ReadsBytes IsText) (eqb kind 0) (λ _. text_name-reads) (λ _. index_name-reads)
