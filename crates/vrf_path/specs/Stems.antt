-- The stems that `resolve_cnc_for_instance_name` tries, in order, and the leaves that it and `unique_leaf_match` try (resolve.rs).
use Rattle.std.specs.Prelude.{Bool, cond, ◌&&◌, List, [], ◌∷◌, ◌++◌, ℕ, zero, suc, eqb, leb, ltb, length, get_or, take}
use Prim.Native.Char.{code}
use Rattle.vrf_bitio.specs.Ascii.{ascii}
use Rattle.vrf_path.specs.Toggle.{class_net_cache}

-- the name cut at each `_` below place n and above place 0, the last `_` first
unfoldable pub cuts_below : List ℕ → ℕ → List (List ℕ)
cuts_below name zero = []
cuts_below name (suc zero) = []
cuts_below name (suc (suc i)) = cond (eqb (get_or name (suc i) 0) (code "_")) (take (suc i) name ∷ cuts_below name (suc i)) (cuts_below name (suc i))

-- an ASCII digit, and an ASCII capital
unfoldable pub is_digit : ℕ → Bool
is_digit b = leb (code "0") b && leb b (code "9")

unfoldable pub is_capital : ℕ → Bool
is_capital b = leb (code "A") b && leb b (code "Z")

-- the length of the first n bytes of a name without their trailing digits
unfoldable pub digits_from : List ℕ → ℕ → ℕ
digits_from name zero = zero
digits_from name (suc i) = cond (is_digit (get_or name i 0)) (digits_from name i) (suc i)

-- the first n bytes of a name without one trailing capital, if something is left
unfoldable pub capital_stems : List ℕ → ℕ → List (List ℕ)
capital_stems name zero = []
capital_stems name (suc zero) = []
capital_stems name (suc (suc i)) = cond (is_capital (get_or name (suc i) 0)) (take (suc i) name ∷ []) []

-- the first n bytes of a name, which are all but its trailing digits, if both parts are non-empty; then these without one trailing capital
unfoldable pub digit_stems : List ℕ → ℕ → List (List ℕ)
digit_stems name n = cond (ltb 0 n && ltb n (length name)) (take n name ∷ capital_stems name n) []

-- the name; the name cut at each `_`; without its trailing digits; also without one capital before the digits
unfoldable pub stems : List ℕ → List (List ℕ)
stems name = name ∷ (cuts_below name (length name) ++ digit_stems name (digits_from name (length name)))

unfoldable pub component : List ℕ
unfolding ascii
component = ascii "Component"

unfoldable pub underscore_c : List ℕ
unfolding ascii
underscore_c = ascii "_C"

-- the leaves that a stem is tried as
unfoldable pub stem_leaves : List ℕ → List (List ℕ)
stem_leaves stem = (stem ++ class_net_cache) ∷ (stem ++ (component ++ class_net_cache)) ∷ (stem ++ (underscore_c ++ class_net_cache)) ∷ []

-- the leaves that `unique_leaf_match` tries
unfoldable pub name_leaves : List ℕ → List (List ℕ)
name_leaves name = name ∷ (name ++ component) ∷ (name ++ underscore_c) ∷ []
