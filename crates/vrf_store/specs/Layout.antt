-- Where each part of a lent memory begins (docs/LAYOUT.md): a word number, except for the texts, which begin at a byte number.
use Rattle.std.specs.Prelude.{ℕ, ◌+◌, ◌*◌}
use Rattle.vrf_model.specs.Book.{Allowances}

-- the number of heads of each index. There is at least one for each record allowed, so that most buckets have one entry or none, and one
-- more, so that there is always a bucket. A group takes 64 bytes in all. Its path has up to three entries, its leaf and its index one each
abbrev pub guid_buckets : Allowances → ℕ
guid_buckets a = 4 * a.guids + 1

abbrev pub group_buckets : Allowances → ℕ
group_buckets a = a.groups + 1

abbrev pub path_buckets : Allowances → ℕ
path_buckets a = 3 * a.groups + 1

abbrev pub leaf_buckets : Allowances → ℕ
leaf_buckets a = 2 * a.groups + 1

abbrev pub field_buckets : Allowances → ℕ
field_buckets a = 4 * a.fields + 1

-- the header has 32 words
abbrev pub guid_rows_at : Allowances → ℕ
guid_rows_at a = 32

abbrev pub guid_heads_at : Allowances → ℕ
guid_heads_at a = 32 + 6 * a.guids

abbrev pub group_rows_at : Allowances → ℕ
group_rows_at a = 33 + 10 * a.guids

abbrev pub group_heads_at : Allowances → ℕ
group_heads_at a = 33 + 10 * a.guids + 6 * a.groups

abbrev pub path_links_at : Allowances → ℕ
path_links_at a = 34 + 10 * a.guids + 7 * a.groups

abbrev pub path_heads_at : Allowances → ℕ
path_heads_at a = 34 + 10 * a.guids + 10 * a.groups

abbrev pub leaf_links_at : Allowances → ℕ
leaf_links_at a = 35 + 10 * a.guids + 13 * a.groups

abbrev pub leaf_heads_at : Allowances → ℕ
leaf_heads_at a = 35 + 10 * a.guids + 14 * a.groups

abbrev pub field_rows_at : Allowances → ℕ
field_rows_at a = 36 + 10 * a.guids + 16 * a.groups

abbrev pub field_heads_at : Allowances → ℕ
field_heads_at a = 36 + 10 * a.guids + 16 * a.groups + 6 * a.fields

abbrev pub literals_at : Allowances → ℕ
literals_at a = 37 + 10 * a.guids + 16 * a.groups + 10 * a.fields

-- the first byte of the texts. They have two halves, each as long as the text allowance
abbrev pub texts_at : Allowances → ℕ
texts_at a = 4 * (37 + 10 * a.guids + 16 * a.groups + 10 * a.fields + a.literals)

-- the number of bytes that the allowances need
abbrev pub need : Allowances → ℕ
need a = texts_at a + 2 * a.text
