-- Contracts of the functions of `fields` that do not have a definition of their own in `vrf_model`.
use Rattle.std.specs.Prelude.{cond, ℕ, eqb}
use Rattle.vrf_bitio.specs.Number.{byte, word32}
use Rattle.vrf_model.specs.Setting.{set_field}
use Rattle.vrf_model.specs.Names.{fname}
use Rattle.vrf_model.specs.Parser.{Parser, return, ◌>>=◌, read, step}
use Rattle.vrf_model.specs.Runs.{exported_field}

-- a field after its handle, in an export and in a block: checksum, name, the setting, then k
abbrev pub field_then : {A : Type 0} → ℕ → ℕ → Parser A → Parser A
field_then index handle k = do
  checksum ← read word32
  name ← read fname
  placed ← step (set_field index handle checksum name)
  k

-- a field after its handle; the reader continues whether or not the field is placed
abbrev pub field_read : ℕ → ℕ → Parser (Unit {0})
field_read index handle = field_then index handle (return tt)

-- what follows the group of an export: a field if the byte is not 0
unfoldable pub field_of : ℕ → Parser (Unit {0})
field_of index = do
  hasField ← read byte
  cond (eqb hasField 0) (return tt) (exported_field index)
