-- Contracts of the functions that move a reader for the exported ones.
use Rattle.std.specs.Prelude.{◌≡◌, ℕ, ◌+◌, ◌-◌, ◌^◌, ◌≤◌, ◌<◌, Result, Ok, Err}
use Rattle.vrf_bitio.specs.Bits.{bits_of}
use Rattle.vrf_bitio.specs.Reading.{Read}
use Rattle.vrf_bitio.specs.Answers.{Gave, Refuses}
use Rattle.vrf_bitio.specs.declared.BitReader.{BitReader}
use Rattle.vrf_bitio.specs.declared.Reason.TheVariants.{TooFew}
use Rattle.vrf_bitio.specs.declared.Refusal.{Refusal}

-- refusal 10: fewer than n bits are left at the reader
abbrev pub too_few : BitReader → ℕ → Refusal
too_few r n = record { reason = TooFew; a = r.pos; b = n }

-- the reader after n more bits
abbrev pub moved : BitReader → ℕ → BitReader
moved r n = record { «data» = r.«data»; first = r.first; count = r.count; pos = r.pos + n }

-- the next n bits are passed, from the bit `at` of the slice on, or there are too few
abbrev pub Takes : BitReader → BitReader → ℕ → Result ℕ Refusal → Type 0
Takes r d n (Ok at) = (n ≤ r.count - r.pos) × ((at ≡ r.first + r.pos) × (d ≡ moved r n))
Takes r d n (Err e) = (r.count - r.pos < n) × ((e ≡ too_few r n) × (d ≡ r))

-- the next n bits, as a number
abbrev pub TakesBits : BitReader → BitReader → ℕ → Result ℕ Refusal → Type 0
TakesBits r d n (Ok v) = (n ≤ r.count - r.pos) × ((v ≡ bits_of r.«data».now (r.first + r.pos) n) × ((v < 2 ^ n) × (d ≡ moved r n)))
TakesBits r d n (Err e) = (r.count - r.pos < n) × ((e ≡ too_few r n) × (d ≡ r))

-- the last chunk of a packed number; after a refusal the reader may be anywhere
abbrev pub LastChunk : BitReader → BitReader → Read ℕ → Result ℕ Refusal → Type 0
LastChunk r d x (Ok v) = Gave r x v d
LastChunk r d x (Err e) = Refuses x e
