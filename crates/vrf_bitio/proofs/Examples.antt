-- The entries P1 to P4 of document 01's examples table: packed numbers, computed.
use Rattle.std.specs.Prelude.{◌≡◌, refl, [], ◌∷◌}
use Rattle.vrf_bitio.specs.Reading.{◌>>=◌, ok, refused, bind_read, return}
use Rattle.vrf_bitio.specs.Number.{byte, chunks, packed}

pub record Packed-examples : Type 0 where
  pub P1 : packed 0 (0xFE ∷ []) ≡ ok 127 8 []
  pub P2 : packed 0 (0x01 ∷ 0x02 ∷ []) ≡ ok 128 16 []
  pub P3 : packed 0 (0xFF ∷ 0xFF ∷ 0xFF ∷ 0xFF ∷ 0x1E ∷ []) ≡ ok 4294967295 40 []
  pub P4 : packed 0 (0xFF ∷ 0xFF ∷ 0xFF ∷ 0xFF ∷ 0x20 ∷ []) ≡ refused 12 0 0
  pub P4-runs-on : packed 0 (0xFF ∷ 0xFF ∷ 0xFF ∷ 0xFF ∷ 0x21 ∷ []) ≡ refused 11 0 0

pub packed-examples : Packed-examples
unfolding packed chunks byte ◌>>=◌ bind_read return
packed-examples = record { P1 = refl; P2 = refl; P3 = refl; P4 = refl; P4-runs-on = refl }
