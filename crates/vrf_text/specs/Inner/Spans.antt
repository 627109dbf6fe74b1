-- What a span of bytes or units holds, and the character at the start of a word of units.
use Rattle.std.specs.Prelude.{List, ◌≡◌, ℕ, ◌*◌, drop, Option, None, Some}
use Rattle.std.proofs.Math.Option.{none}
use Rattle.vrf_bitio.specs.Bits.{bytes_of}
use Rattle.vrf_text.specs.Utf16.{units, before, utf16}
use Rattle.vrf_text.specs.Inner.Steps.{WordHolds16}
use Rattle.vrf_text.specs.declared.Char.{Char}
use Rattle.vrf_text.specs.declared.Span.{Span}

-- the n units at bit p of a slice
abbrev pub units_of : List ℕ → ℕ → ℕ → List ℕ
units_of s p n = units (bytes_of s p (2 * n))

-- the elements of a span, as bytes and as units
abbrev pub bytes_in : Span → List ℕ
bytes_in t = bytes_of t.«data».now t.at t.len

abbrev pub units_in : Span → List ℕ
units_in t = units_of t.«data».now t.at t.len

-- ws begins with this character, or with none
abbrev pub CharTaken : List ℕ → Option Char → Type 0
CharTaken ws (Some c) = utf16 ws ≡ before c.code (utf16 (drop c.units ws))
CharTaken ws None = utf16 ws ≡ none

-- this character begins each list of units whose first two are in the word w
abbrev pub Utf16Step : ℕ → Option Char → Type 0
Utf16Step w o = (ws : List ℕ) → WordHolds16 w ws → CharTaken ws o
