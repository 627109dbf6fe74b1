-- The rows of a table as the writer reads them. The rows are in the memory r, their texts in the memory x.
use Rattle.std.specs.Prelude.{ℕ, ◌+◌, ◌*◌, ◌^◌, ◌<◌, ◌≤◌, List, length}
use Rattle.vrf_model.specs.Book.{Guid}
use Rattle.vrf_model.specs.Setting.{new_guid}
use Rattle.vrf_table.specs.Table.{key, at, len, info, text}

-- row i is in r, and its text is in x and has at most 4,096 bytes
pub record TextRow (r x : List ℕ) (i : ℕ) : Type 0 where
  pub row : 24 * i + 24 ≤ length r
  pub inside : at r i + len r i ≤ length x
  pub short : length (text r x i) ≤ 4096

-- row i is a row of a GUID record: it has a text as above, and its key is a number of 32 bits
pub record GuidRow (r x : List ℕ) (i : ℕ) : Type 0 where
  pub texts : TextRow r x i
  pub small : key r i < 2 ^ 32

-- the record in row i
abbrev pub guid_in : List ℕ → List ℕ → ℕ → Guid
guid_in r x i = new_guid (key r i) (text r x i) (info r i)
