-- A block determines the lists that it was written from. Two books whose writing is accepted give the same bytes exactly if they hold the
-- same lists in the same order, whatever their allowances and counters; and no block is a proper prefix of another.
use Rattle.std.specs.Prelude.{◌≡◌, List, [], ◌++◌, ◌↔◌, ℕ}
use Rattle.vrf_model.specs.Book.{Content}
use Rattle.vrf_model.specs.Writer.{encode_book}

pub record SameLists (c d : Content) : Type 0 where
  pub guids : c.guids ≡ d.guids
  pub groups : c.groups ≡ d.groups

pub record OneBlock (c d : Content) : Type 0 where
  -- the same bytes exactly if the lists are the same
  pub same : (encode_book c ≡ encode_book d) ↔ SameLists c d
  -- the first block is no proper prefix of the second
  pub no_beginning : (tail : List ℕ) → encode_book d ≡ encode_book c ++ tail → tail ≡ []
