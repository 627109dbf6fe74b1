-- Field names (document 01, Text), and the packed numbers of names, runs and blocks.
use Rattle.std.specs.Prelude.{cond, List, ℕ, eqb, ltb, length}
use Rattle.vrf_bitio.specs.Reading.{refused, Reader, return, ◌>>=◌}
use Rattle.vrf_bitio.specs.Number.{byte, int32, packed}
use Rattle.vrf_text.specs.Text.{fstring}
use Rattle.vrf_names.specs.Names.{decimal, rendered}

-- a packed number, as names, runs and blocks read it
abbrev pub number : Reader ℕ
number = packed

-- the limit 41 applies to the rendered name too
unfoldable pub limited : List ℕ → Reader (List ℕ)
limited t = cond (ltb 4096 (length t)) (λ pos l. refused 41 (length t) 0) (return t)

-- zero: a text and a signed number
unfoldable pub text_name : Reader (List ℕ)
text_name = do
  base ← fstring
  n ← int32
  limited (rendered base n)

-- nonzero: a packed index, rendered in decimal
unfoldable pub index_name : Reader (List ℕ)
index_name = do
  index ← number
  return (decimal index)

-- a field name has a kind byte
unfoldable pub fname : Reader (List ℕ)
fname = do
  kind ← byte
  cond (eqb kind 0) text_name index_name
