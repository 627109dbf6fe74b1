-- A signed number of 32 bits, by the tests that code makes on its sign. A number is passed as its bits, and the callee gets the same number.
use Rattle.std.specs.Prelude.{true, false, ◌≡◌, refl, ℕ, suc, ◌-◌, ◌<◌, ℤ, pos, negsuc, nat_abs}
use Rattle.std.proofs.Common.{sym, ap, ◌∙◌, arith, ltb-true, to_z-of_z, SFits, to_z, of_z}
use Rattle.std.specs.Int.Signed.{lt_z}
use Rattle.std.specs.Int.{w32}
use Rattle.vrf_bitio.proofs.Laws.Cases.{clash}

negative : (z : ℤ) → lt_z z (pos 0) ≡ true → (0 < nat_abs z) × (z ≡ negsuc (nat_abs z - 1))
negative (pos n) t = absurd (let e : n < 0 = ltb-true n 0 t in omega arith)
negative (negsuc k) t = let e : suc k - 1 ≡ k = omega arith in (omega arith, rw e)

natural : (z : ℤ) → lt_z z (pos 0) ≡ false → z ≡ pos (nat_abs z)
natural (pos n) t = refl
natural (negsuc k) t = clash (cc)

module _ (z : ℤ) (h : SFits w32 z) where
  pub is_zero : of_z w32 z ≡ 0 → z ≡ pos 0
  is_zero e = sym (to_z-of_z h) ∙ ap (to_z w32) e

  -- the number r that `magnitude` answers for it
  module _ {r : ℕ} (er : r ≡ nat_abs (to_z w32 (of_z w32 z))) where
    pub below-zero : lt_z (to_z w32 (of_z w32 z)) (pos 0) ≡ true → (0 < r) × (z ≡ negsuc (r - 1))
    below-zero t = rw (er ∙ ap nat_abs (to_z-of_z h)) (negative z (ap (λ (y : ℤ). lt_z y (pos 0)) (sym (to_z-of_z h)) ∙ t))

    pub not-below : lt_z (to_z w32 (of_z w32 z)) (pos 0) ≡ false → z ≡ pos r
    not-below t = rw (er ∙ ap nat_abs (to_z-of_z h)) (natural z (ap (λ (y : ℤ). lt_z y (pos 0)) (sym (to_z-of_z h)) ∙ t))

    pub above_zero : lt_z (to_z w32 (of_z w32 z)) (pos 0) ≡ false → (of_z w32 z ≡ 0 → ⊥) → (0 < r) × (z ≡ pos r)
    above_zero t ne =
        let e : z ≡ pos r = not-below t in
        let not-zero : r ≡ 0 → ⊥ = λ k. ne (ap (of_z w32) (e ∙ ap pos k)) in
        (omega arith, e)
