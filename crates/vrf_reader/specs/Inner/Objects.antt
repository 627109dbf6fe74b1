-- Contracts of the functions of `objects` that `load_chain` calls.
use Rattle.std.specs.Prelude.{ℕ}
use Rattle.vrf_text.specs.Text.{fstring}
use Rattle.vrf_model.specs.Setting.{set_guid}
use Rattle.vrf_model.specs.Parser.{Parser, return, ◌>>=◌, read, step}
use Rattle.vrf_model.specs.Runs.{skip_checksum}

-- the part of `object_path` after the outer object
unfoldable pub recorded : ℕ → ℕ → ℕ → Parser ℕ
recorded guid flags outer = do
  path ← read fstring
  u ← skip_checksum flags
  v ← step (set_guid guid path outer)
  return guid
