-- Document 01, Blocks: what `tally` prints, to the byte.
use Rattle.std.specs.Prelude.{cond, List, [], ◌∷◌, ◌++◌, ℕ, ltb, length}
use Prim.Native.Char.{code}
use Prim.Native.String.{String}
use Rattle.vrf_bitio.specs.Ascii.{ascii}
use Rattle.vrf_names.specs.Names.{decimal}
use Rattle.vrf_model.specs.Book.{Allowances, fresh}
use Rattle.vrf_model.specs.Block.{BlockCounts}
use Rattle.vrf_model.specs.Calls.{Answer, refusal-of, acted, field_placed, at_place, found, ran, block_counts, number, text, whole, read_checkpoint_tables, run}

-- a line: a name, `=`, a number in decimal, and a line end
unfoldable pub line : List ℕ → ℕ → List ℕ
line name n = name ++ (code "=" ∷ (decimal n ++ (code "\n" ∷ [])))

unfoldable pub lines : List (String × ℕ) → List ℕ
lines [] = []
lines ((name, n) ∷ more) = line (ascii name) n ++ lines more

-- GUIDs, groups, filled slots read, end byte, kind 0 entries, kind 1 entries, places resolved
unfoldable pub count_lines : BlockCounts → List ℕ
count_lines c = lines (
    ("guids", c.guids)
    ∷ ("groups", c.groups)
    ∷ ("fields", c.fields)
    ∷ ("frame", c.frame)
    ∷ ("indexed", c.indexed)
    ∷ ("literals", c.literals)
    ∷ ("resolved", c.resolved)
    ∷ []
    )

unfoldable pub refusal_lines : ℕ → ℕ → ℕ → List ℕ
refusal_lines n a b = lines (("refusal", n) ∷ ("a", a) ∷ ("b", b) ∷ [])

-- the block reader answers counts or a refusal; it never gives the other answers
unfoldable pub answer_lines : Answer → List ℕ
answer_lines (block_counts c) = count_lines c
answer_lines (refusal-of n a b) = refusal_lines n a b
answer_lines acted = []
answer_lines (field_placed b) = []
answer_lines (at_place i) = []
answer_lines (found i) = []
answer_lines (ran n p) = []
answer_lines (number n) = []
answer_lines (text t) = []

-- the book's allowances
unfoldable pub allowances : Allowances
allowances = record { guids = 128; groups = 32; fields = 128; text = 8192; literals = 128 }

-- what the block reader answers to the input on a fresh book
unfoldable pub answered : List ℕ → Answer
answered input = (run (read_checkpoint_tables (whole input)) (fresh allowances)).answer

-- input above 65,536 bytes is refused with 43 and zeros
unfoldable pub tally : List ℕ → List ℕ
tally input = cond (ltb 65536 (length input)) (refusal_lines 43 0 0) (answer_lines (answered input))
