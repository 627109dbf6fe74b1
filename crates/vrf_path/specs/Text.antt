-- Texts as lists of bytes: comparing them, and searching in them. The definitions of keys, leaves and stems use these.
use Rattle.std.specs.Prelude.{Bool, true, false, cond, ◌&&◌, List, [], ◌∷◌, ℕ, zero, suc, ◌+◌, ◌-◌, ◌*◌, ◌^◌, eqb, length, get_or, take, drop}
use Rattle.std.proofs.Math.Option.{Option, none, some}

unfoldable pub same : List ℕ → List ℕ → Bool
same [] [] = true
same [] (b ∷ t) = false
same (a ∷ s) [] = false
same (a ∷ s) (b ∷ t) = eqb a b && same s t

-- the four and the eight bytes from place i on as one number, low byte first; bytes past the end are 0
unfoldable pub four : List ℕ → ℕ → ℕ
four t i = get_or t i 0 + 256 * (get_or t (i + 1) 0 + 256 * (get_or t (i + 2) 0 + 256 * get_or t (i + 3) 0))

unfoldable pub eight : List ℕ → ℕ → ℕ
eight t i = four t i + 2 ^ 32 * four t (i + 4)

-- whether t starts with p, and whether it ends with p
unfoldable pub starts_with : List ℕ → List ℕ → Bool
starts_with p t = same (take (length p) t) p

unfoldable pub ends_with : List ℕ → List ℕ → Bool
ends_with p t = same (drop (length t - length p) t) p

-- the first place at which p occurs in a text whose rest from place i on is t
unfoldable pub first_from : List ℕ → ℕ → List ℕ → Option ℕ
first_from p i [] = none
first_from p i (b ∷ t) = cond (starts_with p (b ∷ t)) (some i) (first_from p (i + 1) t)

-- the last place below n at which t has the byte b
unfoldable pub last_below : ℕ → List ℕ → ℕ → Option ℕ
last_below b t zero = none
last_below b t (suc i) = cond (eqb (get_or t i 0) b) (some i) (last_below b t i)

-- a text, unless it is empty
unfoldable pub non_empty : List ℕ → Option (List ℕ)
non_empty [] = none
non_empty (b ∷ t) = some (b ∷ t)
