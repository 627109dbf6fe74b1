-- A table in lent memory (docs/LAYOUT.md, Rows). A row has six words: two for the key, the link, the place and the length of its text, and
-- one number. Each bucket has a head. GUID records, groups and fields are three such tables.
use Rattle.std.specs.Prelude.{ℕ, ◌+◌, ◌-◌, ◌*◌, ◌/◌, ◌%◌, ◌^◌, Bool, cond, List, ◌==◌, nat_lt}
use Rattle.std.proofs.Math.Option.{Option}
use Rattle.vrf_words.specs.Words.{word, part}
use Rattle.vrf_table.specs.Chain.{walk}

-- ---- the words of row e, where r is the memory of the rows

unfoldable pub key : List ℕ → ℕ → ℕ
key r e = word r (6 * e) + 2 ^ 32 * word r (6 * e + 1)

unfoldable pub link : List ℕ → ℕ → ℕ
link r e = word r (6 * e + 2)

unfoldable pub at : List ℕ → ℕ → ℕ
at r e = word r (6 * e + 3)

unfoldable pub len : List ℕ → ℕ → ℕ
len r e = word r (6 * e + 4)

unfoldable pub info : List ℕ → ℕ → ℕ
info r e = word r (6 * e + 5)

-- the text of row e, where x is the memory of the texts
unfoldable pub text : List ℕ → List ℕ → ℕ → List ℕ
text r x e = part x (at r e) (len r e)

-- ---- buckets

-- the bucket of a hash, out of b buckets
unfoldable pub bucket : ℕ → ℕ → ℕ
bucket b hash = hash * b / 2 ^ 32

unfoldable pub key_hash : ℕ → ℕ
key_hash k = (k % 2 ^ 32 * 2654435761 + k / 2 ^ 32 % 2 ^ 32 * 40503) % 2 ^ 32

-- Out of many buckets, 64 consecutive keys get consecutive buckets, so that setting rising GUIDs writes the memory in order. The hash of
-- k / 64 gives the first of the 64. Fewer than 4096 buckets are close together anyway: there each key is hashed on its own
unfoldable pub key_bucket : ℕ → ℕ → ℕ
key_bucket b k = cond (nat_lt b 4096) (bucket b (key_hash k)) (bucket (b - 63) (key_hash (k / 64)) + k % 64)

-- ---- finding a key

unfoldable pub key_hit : List ℕ → ℕ → ℕ → Bool
key_hit r k e = key r e == k

unfoldable pub key_start : List ℕ → ℕ → ℕ → ℕ
key_start heads b k = word heads (key_bucket b k)

unfoldable pub find_key : List ℕ → List ℕ → ℕ → ℕ → ℕ → Option ℕ
find_key r heads b n k = walk (key_hit r k) (link r) n (key_start heads b k)
