-- N1 of document 01's examples table, and names, numbers and lengths at their limits, computed.
use Rattle.std.specs.Prelude.{◌≡◌, refl, pos, negsuc, replicate}
use Prim.Native.Char.{code}
use Rattle.vrf_bitio.specs.Ascii.{ascii}
use Rattle.vrf_names.specs.Names.{digits, decimal, suffix, rendered, named, refused, rendered_into}

-- N1 Foo with 4 is Foo_3; with -3, Foo_-3
pub N1 : (rendered (ascii "Foo") (pos 4) ≡ ascii "Foo_3") × (rendered (ascii "Foo") (negsuc 2) ≡ ascii "Foo_-3")
unfolding rendered suffix decimal digits ascii
N1 = (refl, refl)

-- 0 adds nothing, and 1 adds `_0`
pub none-and-first : (rendered (ascii "Foo") (pos 0) ≡ ascii "Foo") × (rendered (ascii "Foo") (pos 1) ≡ ascii "Foo_0")
unfolding rendered suffix decimal digits ascii
none-and-first = (refl, refl)

-- the highest and the lowest number of 32 bits; the lowest keeps its minus sign
pub ends : (suffix (pos 2147483647) ≡ ascii "_2147483646") × (suffix (negsuc 2147483647) ≡ ascii "_-2147483648")
unfolding suffix decimal digits ascii
ends = (refl, refl)

-- the highest index of 32 bits, and the numbers on either side of the second digit
pub indices : (decimal 4294967295 ≡ ascii "4294967295") × (decimal 9 ≡ ascii "9") × (decimal 10 ≡ ascii "10")
unfolding decimal digits ascii
indices = (refl, refl, refl)

-- 4,096 bytes pass; 4,097 are refusal 41, whatever the target has; five bytes for a target of four are refusal 15, counted in bits
pub limits : (rendered_into 4096 (replicate 4096 (code "x")) ≡ named (replicate 4096 (code "x")))
    × (rendered_into 0 (replicate 4097 (code "x")) ≡ refused 41 4097 0)
    × (rendered_into 4 (ascii "Foo_3") ≡ refused 15 40 32)
    × (rendered_into 5 (ascii "Foo_3") ≡ named (ascii "Foo_3"))
unfolding rendered_into ascii
limits = (refl, refl, refl, refl)
