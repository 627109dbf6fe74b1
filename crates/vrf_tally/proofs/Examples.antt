-- Examples, computed from the definition of `tally`: the block whose output document 01 gives, its block B1, the block on which the program
-- `tally` is run, and refusals.
use Rattle.std.specs.Prelude.{◌≡◌, refl, List, [], ◌∷◌, ℕ, length, replicate}
use Rattle.vrf_bitio.specs.Ascii.{ascii}
use Rattle.vrf_model.proofs.Examples.Computing.{computing}
use Rattle.vrf_tally.specs.Tally.{line, lines, count_lines, refusal_lines, answer_lines, allowances, answered, tally}

pub record Tally-examples : Type 0 where
  -- W=16 and five zero words
  pub empty : tally (16 ∷ replicate 23 0) ≡ ascii "guids=0\ngroups=0\nfields=0\nframe=24\nindexed=0\nliterals=0\nresolved=0\n"
  -- B1
  pub B1 : tally (
      26 ∷ 0 ∷ 0 ∷ 0 ∷ 0 ∷ 0 ∷ 0 ∷ 0 ∷ 0 ∷ 0 ∷ 0 ∷ 0 ∷ 0 ∷ 0 ∷ 0 ∷ 0 ∷ 1 ∷ 0 ∷ 0 ∷ 0
      ∷ 4 ∷ 0 ∷ 1 ∷ 2 ∷ 0 ∷ 0 ∷ 0 ∷ 65 ∷ 0 ∷ 0 ∷ 0 ∷ 0 ∷ 0 ∷ 0 ∷ []
      ) ≡ ascii "guids=1\ngroups=0\nfields=0\nframe=34\nindexed=0\nliterals=1\nresolved=0\n"
  -- The block on which the program is run. GUIDs: 2 with the path `A`; 3 with outer 2 and the path at place 0; 5 with outer 3 and the path
  -- `B`. One group: `/a.b`, index 7, three slots. Slot 0 has the name `x`, slot 1 is empty, slot 2 has the name 200.
  pub stored : tally (
      79 ∷ 0 ∷ 0 ∷ 0 ∷ 0 ∷ 0 ∷ 0 ∷ 0 ∷ 0 ∷ 0 ∷ 0 ∷ 0 ∷ 0 ∷ 0 ∷ 0 ∷ 0 ∷ 3 ∷ 0 ∷ 0 ∷ 0
      ∷ 4 ∷ 0 ∷ 1 ∷ 2 ∷ 0 ∷ 0 ∷ 0 ∷ 65 ∷ 0 ∷ 0
      ∷ 6 ∷ 4 ∷ 0 ∷ 0 ∷ 0
      ∷ 10 ∷ 6 ∷ 1 ∷ 2 ∷ 0 ∷ 0 ∷ 0 ∷ 66 ∷ 0 ∷ 0
      ∷ 1 ∷ 0 ∷ 0 ∷ 0 ∷ 5 ∷ 0 ∷ 0 ∷ 0 ∷ 47 ∷ 97 ∷ 46 ∷ 98 ∷ 0 ∷ 14 ∷ 6
      ∷ 1 ∷ 0 ∷ 17 ∷ 0 ∷ 0 ∷ 0 ∷ 0 ∷ 2 ∷ 0 ∷ 0 ∷ 0 ∷ 120 ∷ 0 ∷ 0 ∷ 0 ∷ 0 ∷ 0
      ∷ 0
      ∷ 1 ∷ 4 ∷ 18 ∷ 0 ∷ 0 ∷ 0 ∷ 1 ∷ 145 ∷ 2 ∷ []
      ) ≡ ascii "guids=3\ngroups=1\nfields=2\nframe=87\nindexed=1\nliterals=2\nresolved=1\n"
  -- no input: 10, 32 bits are missing at position 0; a word that is not zero: 30, at byte 8; a wrong end byte: 36
  pub nothing : tally [] ≡ ascii "refusal=10\na=0\nb=32\n"
  pub word_set : tally (16 ∷ 0 ∷ 0 ∷ 0 ∷ 0 ∷ 0 ∷ 0 ∷ 0 ∷ 0 ∷ 1 ∷ replicate 14 0) ≡ ascii "refusal=30\na=8\nb=256\n"
  pub other-end : tally (17 ∷ replicate 23 0) ≡ ascii "refusal=36\na=24\nb=25\n"
  -- the limit: 65,536 bytes are read, 65,537 are refused with 43
  pub long : (input : List ℕ) → length input ≡ 65536 → tally input ≡ answer_lines (answered input)
  pub too_long : (input : List ℕ) → length input ≡ 65537 → tally input ≡ ascii "refusal=43\na=0\nb=0\n"

pub tally-examples : Tally-examples
unfolding computing ascii line lines count_lines refusal_lines answer_lines allowances answered tally
tally-examples = record {
  empty = refl;
  B1 = refl;
  stored = refl;
  nothing = refl;
  word_set = refl;
  other-end = refl;
  long = λ input e. rw e refl;
  too_long = λ input e. rw e refl;
}
