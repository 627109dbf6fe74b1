-- Document 01, section Text: a field name is an index in decimal, or a base text with a signed number.
use Rattle.std.specs.Prelude.{cond, List, [], ◌∷◌, ◌++◌, ℕ, zero, suc, ◌+◌, ◌*◌, ◌/◌, ◌%◌, ltb, ℤ, pos, negsuc, length}
use Prim.Native.Char.{code}

-- the digits of n, or its last `most` digits if it has more
unfoldable pub digits : ℕ → ℕ → List ℕ
digits zero n = []
digits (suc most) n =
    let higher = digits most (n / 10) in
    cond (ltb n 10) ((code "0" + n) ∷ []) (higher ++ ((code "0" + n % 10) ∷ []))

-- n in decimal, as ASCII, without leading zeros; n + 1 digits are always enough
unfoldable pub decimal : ℕ → List ℕ
decimal n = digits (suc n) n

-- what a number adds to a name: 0 adds nothing, n above 0 adds `_` and n - 1, n below 0 adds `_` and n with its minus sign
unfoldable pub suffix : ℤ → List ℕ
suffix (pos zero) = []
suffix (pos (suc n)) = code "_" ∷ decimal n
suffix (negsuc n) = code "_" ∷ code "-" ∷ decimal (suc n)

unfoldable pub rendered : List ℕ → ℤ → List ℕ
rendered base z = base ++ suffix z

-- a rendered name, or its refusal: the number and the two details of document 01's table
pub data Name : Type 0 where
  named : List ℕ → Name
  refused : ℕ → ℕ → ℕ → Name

-- the rendered name t for a target of m bytes. 41: more than 4,096 bytes. Then 15: the target is too short, counted in bits.
unfoldable pub rendered_into : ℕ → List ℕ → Name
rendered_into m t =
    cond (ltb 4096 (length t)) (refused 41 (length t) 0)
    (cond (ltb m (length t)) (refused 15 (8 * length t) (8 * m))
    (named t))
