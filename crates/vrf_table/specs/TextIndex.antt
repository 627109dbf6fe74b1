-- How a group is found by a key of its path and by its leaf (document 01, Keys and The book). A group has three entries in the path index,
-- linked by the words `links`, and one entry in the leaf index.
use Rattle.std.specs.Prelude.{ℕ, zero, suc, ◌+◌, ◌-◌, ◌*◌, ◌/◌, ◌%◌, ◌^◌, Bool, List, length}
use Rattle.std.proofs.Math.Option.{Option, some}
use Rattle.vrf_path.specs.Text.{eight}
use Rattle.vrf_path.specs.Keys.{default_alias, core_alias, key_is}
use Rattle.vrf_path.specs.Leaf.{leaf}
use Rattle.vrf_path.specs.Base.{leaf_base}
use Rattle.vrf_words.specs.Words.{word}
use Rattle.vrf_model.specs.Lookup.{Claim}
use Rattle.vrf_table.specs.Chain.{walk}
use Rattle.vrf_table.specs.Index.{claim_walk}
use Rattle.vrf_table.specs.Table.{bucket, text}

-- ---- the hash of a text

-- A text is hashed in words of eight bytes, four words at a time, and then once more by its last four words. In a text of fewer than 32
-- bytes these overlap or start at byte 0. Bytes past the end count as 0

-- adds the word w to the hash h: the product of w's halves. A constant is added to each half, so that a zero half does not hide the other
unfoldable pub turn : ℕ → ℕ → ℕ
turn h w = (h + (w % 2 ^ 32 + 2654435761) % 2 ^ 32 * ((w / 2 ^ 32 + 2246822519) % 2 ^ 32)) % 2 ^ 64

-- adds the four words at the places i, j, k and l
unfoldable pub four_turns : ℕ → List ℕ → (i j k l : ℕ) → ℕ
four_turns h t i j k l = turn (turn (turn (turn h (eight t i)) (eight t j)) (eight t k)) (eight t l)

-- the hash after the first 32 * i bytes
unfoldable pub hash_up_to : List ℕ → ℕ → ℕ
hash_up_to t zero = length t % 2 ^ 32
hash_up_to t (suc i) = four_turns (hash_up_to t i) t (32 * i) (32 * i + 8) (32 * i + 16) (32 * i + 24)

unfoldable pub last_turns : ℕ → List ℕ → ℕ
last_turns h t = four_turns h t (length t - 32) (length t - 24) (length t - 16) (length t - 8)

unfoldable pub text_hash : List ℕ → ℕ
text_hash t = last_turns (hash_up_to t ((length t - 1) / 32)) t

-- the 32 bits that choose a bucket: the sum of both halves of the hash
unfoldable pub mixed : ℕ → ℕ
mixed hash = (hash % 2 ^ 32 + hash / 2 ^ 32) % 2 ^ 32

unfoldable pub text_bucket : ℕ → List ℕ → ℕ
text_bucket b t = bucket b (mixed (text_hash t))

unfoldable pub text_start : List ℕ → ℕ → List ℕ → ℕ
text_start heads b t = word heads (text_bucket b t)

-- ---- keys

-- a path's keys by number: 0 is the path, 1 its default alias, any other number its core alias
unfoldable pub key_numbered : List ℕ → ℕ → Option (List ℕ)
key_numbered t zero = some t
key_numbered t (suc zero) = default_alias t
key_numbered t (suc (suc i)) = core_alias t

-- whether entry e is the key k: entry e is key e % 3 of group e / 3
unfoldable pub path_hit : List ℕ → List ℕ → List ℕ → ℕ → Bool
path_hit r x k e = key_is (key_numbered (text r x (e / 3)) (e % 3)) k

unfoldable pub find_path : List ℕ → List ℕ → List ℕ → List ℕ → ℕ → ℕ → List ℕ → Option ℕ
find_path r x links heads b n k = walk (path_hit r x k) (word links) (3 * n) (text_start heads b k)

-- ---- leaves

unfoldable pub leaf_hit : List ℕ → List ℕ → List ℕ → ℕ → Bool
leaf_hit r x l e = key_is (leaf (text r x e)) l

unfoldable pub leaf_start : List ℕ → ℕ → List ℕ → ℕ
leaf_start heads b l = text_start heads b (leaf_base l)

-- the claim of leaf l in the chain that starts at pointer p
abbrev pub claim_at : List ℕ → List ℕ → List ℕ → ℕ → ℕ → List ℕ → Claim
claim_at r x links n p l = claim_walk (leaf_hit r x l) (word links) n p

unfoldable pub claim_of : List ℕ → List ℕ → List ℕ → List ℕ → ℕ → ℕ → List ℕ → Claim
claim_of r x links heads b n l = claim_at r x links n (leaf_start heads b l) l
