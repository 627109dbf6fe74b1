-- Document 01's constant texts, such as `Default__`, as lists of bytes.
use Rattle.std.specs.Prelude.{List, [], ◌∷◌, ℕ}
use Prim.Native.Char.{code}
use Prim.Native.String.{String, [] as ended, ◌∷◌ as ◌before◌}

-- the bytes of a text of ASCII characters
unfoldable pub ascii : String → List ℕ
ascii ended = []
ascii (c before s) = code c ∷ ascii s
