-- What the searches of `KeyIndex`, `PathIndex`, `LeafChains` and `LeafIndex` find.
use Rattle.std.specs.Prelude.{ℕ, List}
use Rattle.std.proofs.Math.Option.{Option}
use Rattle.vrf_words.specs.Words.{word}
use Rattle.vrf_model.specs.Lookup.{Claim}
use Rattle.vrf_table.specs.Chain.{walk}
use Rattle.vrf_table.specs.Table.{find_key}
use Rattle.vrf_table.specs.TextIndex.{find_path, leaf_hit, claim_at, claim_of}
use Rattle.vrf_table.specs.Inner.TextIndex.{first_at}
use Rattle.vrf_table.specs.declared.KeyIndex.{KeyIndex}
use Rattle.vrf_table.specs.declared.PathIndex.{PathIndex}
use Rattle.vrf_table.specs.declared.LeafChains.{LeafChains}
use Rattle.vrf_table.specs.declared.LeafIndex.{LeafIndex}

-- the row with the key k
abbrev pub row_found : KeyIndex → ℕ → Option ℕ
row_found t k = find_key t.rows.now t.heads.now t.buckets t.count k

-- the entry that is the key k
abbrev pub path_found : PathIndex → List ℕ → Option ℕ
path_found t k = find_path t.groups.rows.now t.groups.texts.now t.links.now t.heads.now t.buckets t.groups.count k

-- the group below n with the leaf l, in the chain that starts at pointer p
abbrev pub leaf_found : LeafChains → (n p : ℕ) → List ℕ → Option ℕ
leaf_found t n p l = walk (leaf_hit t.groups.rows.now t.groups.texts.now l) (word t.links.now) n p

-- the claim of the leaf l in that chain
abbrev pub claim_found : LeafChains → ℕ → List ℕ → Claim
claim_found t p l = claim_at t.groups.rows.now t.groups.texts.now t.links.now t.groups.count p l

-- the first claim of three leaves in the chains that start at p and q
abbrev pub first_found : LeafChains → (p q : ℕ) → (s t u : List ℕ) → Claim
first_found x p q s t u = first_at x.groups.rows.now x.groups.texts.now x.links.now x.groups.count p q s t u

-- the claim of the leaf l
abbrev pub claim_in : LeafIndex → List ℕ → Claim
claim_in t l = claim_of t.chains.groups.rows.now t.chains.groups.texts.now t.chains.links.now t.heads.now t.buckets t.chains.groups.count l
