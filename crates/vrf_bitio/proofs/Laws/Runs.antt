-- Runs: successive numbers of w bits at a bit of a slice. Bytes and units of UTF-16 are runs, so one set of laws serves both.
use Rattle.std.specs.Prelude.{List, [], ◌∷◌, ◌≡◌, length, get_or, take, drop}
use Rattle.std.proofs.Math.Path.{refl, ap}
use Rattle.std.proofs.Common.{◌∙◌, le_of_suc-le-suc}
use Prim.Native.Nat.{ℕ, zero, suc, ◌+◌, ◌-◌, ◌*◌, ◌≤◌, ◌<◌}
use native.Mathlib.Omega.{arith}
use Rattle.vrf_bitio.specs.Bits.{bits_of, bytes_of}

unfoldable pub runs : ℕ → List ℕ → ℕ → ℕ → List ℕ
runs w s q zero = []
runs w s q (suc n) = bits_of s q w ∷ runs w s (q + w) n

module _ (w : ℕ) (s : List ℕ) where
  pub run_length : (q n : ℕ) → length (runs w s q n) ≡ n
  unfolding runs
  run_length q zero = refl
  run_length q (suc n) = ap suc (run_length (q + w) n)

  pub run_at : (q n j : ℕ) → j < n → get_or (runs w s q n) j 0 ≡ bits_of s (q + w * j) w
  unfolding runs
  run_at q zero j h = absurd (omega arith)
  run_at q (suc n) zero h = let e : q + w * 0 ≡ q = omega arith in rw e
  run_at q (suc n) (suc j) h =
      let e : q + w + w * j ≡ q + w * suc j = omega arith in
      rw (← e) (run_at (q + w) n j (le_of_suc-le-suc h))

  pub run_take : (q k n : ℕ) → k ≤ n → take k (runs w s q n) ≡ runs w s q k
  unfolding runs
  run_take q zero n h = refl
  run_take q (suc k) zero h = absurd (omega arith)
  run_take q (suc k) (suc n) h = ap (◌∷◌ (bits_of s q w)) (run_take (q + w) k n (le_of_suc-le-suc h))

  pub run_drop : (q k n : ℕ) → drop k (runs w s q n) ≡ runs w s (q + w * k) (n - k)
  unfolding runs
  run_drop q zero n =
      let e : q + w * 0 ≡ q = omega arith in
      let m : n - 0 ≡ n = omega arith in
      rw (e, m)
  run_drop q (suc k) zero = let m : 0 - suc k ≡ 0 = omega arith in rw m
  run_drop q (suc k) (suc n) =
      let e : q + w + w * k ≡ q + w * suc k = omega arith in
      let m : n - k ≡ suc n - suc k = omega arith in
      run_drop (q + w) k n ∙ rw (e, m)

pub bytes_run : (s : List ℕ) (q n : ℕ) → bytes_of s q n ≡ runs 8 s q n
unfolding bytes_of runs
bytes_run s q zero = refl
bytes_run s q (suc n) = ap (◌∷◌ (bits_of s q 8)) (bytes_run s (q + 8) n)
