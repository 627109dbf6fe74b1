-- What demand 3 is stated with (`Demand3` in `vrf_schema`): the counts of a written block and the counters after reading it, when writing
-- is refused, and how far counters are apart.
use Rattle.std.specs.Prelude.{◌≡◌, ◌↔◌, ◌⊎◌, ℕ, ◌+◌, ◌-◌, ◌≤◌, ◌<◌, ◌%◌, ◌^◌, length}
use Rattle.vrf_model.specs.Book.{Content, Counters, held_fields}
use Rattle.vrf_model.specs.Block.{BlockCounts}
use Rattle.vrf_model.specs.Writer.{encode_book, Written, written, not_written, write}
use Rattle.vrf_model.specs.Clash.{NoClash, FirstClash, SomeClash}

-- ---- the counts of a written block

-- the seven counts of a written block; every path is a literal, and the end byte is the length
unfoldable pub counts_of_block : Content → BlockCounts
counts_of_block c = record {
  guids = length c.guids;
  groups = length c.groups;
  fields = held_fields c;
  frame = length (encode_book c);
  indexed = 0;
  literals = length c.guids;
  resolved = 0;
}

-- the counters of a fresh book that has read a written block: a generation steps for each group and for each GUID
unfoldable pub counters_of_block : Content → Counters
counters_of_block c = record { schema = length c.groups; guid = length c.guids; dropped = 0; replaced = 0; renamed = 0 }

-- ---- when writing is refused

-- the block is longer than the buffer or than 268,435,456 bytes
abbrev pub Longer : ℕ → Content → Type 0
Longer capacity c = (capacity < length (encode_book c)) ⊎ (268435456 < length (encode_book c))

-- no group's path is a key of a group before it, but the block is too long; n is its length
pub record TooLong (capacity : ℕ) (c : Content) (n : ℕ) : Type 0 where
  pub clear : NoClash c.groups
  pub over : Longer capacity c
  pub long : n ≡ length (encode_book c)

-- no group's path is a key of a group before it, and the block is not too long; n is its length
pub record Accepts (capacity : ℕ) (c : Content) (n : ℕ) : Type 0 where
  pub clear : NoClash c.groups
  pub fits : length (encode_book c) ≤ capacity
  pub size : length (encode_book c) ≤ 268435456
  pub long : n ≡ length (encode_book c)

-- the writer answered a refusal, with any number and details
pub record IsRefused (w : Written) : Type 0 where
  pub number : ℕ
  pub a : ℕ
  pub b : ℕ
  pub is : w ≡ not_written number a b

-- writing is refused exactly when some group's path is a key of a group before it in the group list, or the block is longer than the buffer
-- or than 268,435,456 bytes
pub record Writing (capacity : ℕ) (c : Content) : Type 0 where
  -- it is refused, with some number
  pub refused : IsRefused (write capacity c) ↔ (SomeClash c.groups ⊎ Longer capacity c)
  -- 44: the place of the first group whose path is a key of a group before it
  pub clashes : (place : ℕ) → (write capacity c ≡ not_written 44 place 0) ↔ FirstClash c.groups place
  -- 45: the length, if there is no such group and the block is too long
  pub too_long : (n : ℕ) → (write capacity c ≡ not_written 45 n 0) ↔ TooLong capacity c n
  -- accepted: the length, in all other cases
  pub accepted : (n : ℕ) → (write capacity c ≡ written n) ↔ Accepts capacity c n

-- ---- how far counters are apart

-- x minus y modulo 2^64; counters are below 2^64
unfoldable pub ahead : ℕ → ℕ → ℕ
ahead x y = (x + (2 ^ 64 - y)) % 2 ^ 64

-- how far each counter of a is ahead of the same counter of b
unfoldable pub apart : Counters → Counters → Counters
apart a b = record {
  schema = ahead a.schema b.schema;
  guid = ahead a.guid b.guid;
  dropped = ahead a.dropped b.dropped;
  replaced = ahead a.replaced b.replaced;
  renamed = ahead a.renamed b.renamed;
}
