-- The stems of names, computed.
use Rattle.std.specs.Prelude.{◌≡◌, refl, [], ◌∷◌, ◌++◌}
use Rattle.vrf_bitio.specs.Ascii.{ascii}
use Rattle.vrf_path.specs.Stems.{cuts_below, is_digit, is_capital, digits_from, capital_stems, digit_stems, stems}

-- all definitions that the examples below unfold
unfoldable computing : Unit {0}
unfolding stems cuts_below digit_stems digits_from capital_stems is_digit is_capital ascii
computing = tt

-- resolve.rs: `Foo_003` is also tried as `Foo_`, after `Foo`
pub underscore : stems (ascii "Foo_003") ≡ ascii "Foo_003" ∷ ascii "Foo" ∷ ascii "Foo_" ∷ []
unfolding computing
underscore = refl

-- the last underscore is cut first; one at the start is never cut
pub cuts : (stems (ascii "a_b_c") ≡ ascii "a_b_c" ∷ ascii "a_b" ∷ ascii "a" ∷ []) × (stems (ascii "_A") ≡ ascii "_A" ∷ [])
unfolding computing
cuts = (refl, refl)

-- the cuts come before the stem without digits, and that one before the stem without a capital
pub order : stems (ascii "A_B1") ≡ ascii "A_B1" ∷ ascii "A" ∷ ascii "A_B" ∷ ascii "A_" ∷ []
unfolding computing
order = refl

-- `A` and `Z` are capitals, and their neighbors in ASCII are not
pub capitals : (stems (ascii "fooA1") ≡ ascii "fooA1" ∷ ascii "fooA" ∷ ascii "foo" ∷ [])
    × (stems (ascii "fooZ1") ≡ ascii "fooZ1" ∷ ascii "fooZ" ∷ ascii "foo" ∷ [])
    × (stems (ascii "foo@1") ≡ ascii "foo@1" ∷ ascii "foo@" ∷ [])
    × (stems (ascii "foo[1") ≡ ascii "foo[1" ∷ ascii "foo[" ∷ [])
unfolding computing
capitals = (refl, refl, refl, refl)

-- one capital is dropped, and only before digits
pub one-capital : (stems (ascii "SAB1") ≡ ascii "SAB1" ∷ ascii "SAB" ∷ ascii "SA" ∷ []) × (stems (ascii "SA") ≡ ascii "SA" ∷ [])
unfolding computing
one-capital = (refl, refl)

-- `0` and `9` are digits, and their neighbors in ASCII are not
pub digits : (stems (ascii "foo0") ≡ ascii "foo0" ∷ ascii "foo" ∷ [])
    × (stems (ascii "foo9") ≡ ascii "foo9" ∷ ascii "foo" ∷ [])
    × (stems (ascii "foo/") ≡ ascii "foo/" ∷ [])
    × (stems (ascii "foo:") ≡ ascii "foo:" ∷ [])
unfolding computing
digits = (refl, refl, refl, refl)

-- digits of other scripts do not count: the UTF-8 of U+0663, the Arabic digit three
pub ascii-digits : stems (ascii "foo" ++ (0xD9 ∷ 0xA3 ∷ [])) ≡ (ascii "foo" ++ (0xD9 ∷ 0xA3 ∷ [])) ∷ []
unfolding computing
ascii-digits = refl

-- no stem is empty: digits alone have no digit stem, and a single capital before digits is not dropped
pub nothing_left : (stems (ascii "12") ≡ ascii "12" ∷ []) × (stems (ascii "A1") ≡ ascii "A1" ∷ ascii "A" ∷ [])
unfolding computing
nothing_left = (refl, refl)
