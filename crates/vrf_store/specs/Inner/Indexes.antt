-- Contracts of the functions that give the indexes of a memory (docs/LAYOUT.md, Indexes).
use Rattle.std.specs.Prelude.{◌≡◌, ℕ, ◌≤◌, List}
use Rattle.vrf_table.specs.Inner.Answers.{RowTexts}
use Rattle.vrf_table.specs.declared.KeyIndex.{KeyIndex}
use Rattle.vrf_table.specs.declared.GroupRows.{GroupRows}
use Rattle.vrf_table.specs.declared.PathIndex.{PathIndex}
use Rattle.vrf_table.specs.declared.LeafChains.{LeafChains}
use Rattle.vrf_table.specs.declared.LeafIndex.{LeafIndex}
use Rattle.vrf_store.specs.Layout
use Rattle.vrf_store.specs.Store.{Store, allowances_of, store_of}
use Rattle.vrf_store.specs.Inner.WellFormed.{Enough}

-- ---- what they require

-- the memory has n groups, and their texts are inside the half
pub record Readable (m : List ℕ) (n : ℕ) : Type 0 where
  pub enough : Enough m
  pub few : (allowances_of m).groups ≤ 100000
  pub low : n ≤ (allowances_of m).groups
  pub texts : RowTexts (store_of m).group_rows (store_of m).texts n

-- ---- what they answer: the parts of the store s, for n rows or groups

pub record KeyParts (t : KeyIndex) (r h : List ℕ) (b n : ℕ) : Type 0 where
  pub rows : t.rows.now ≡ r
  pub heads : t.heads.now ≡ h
  pub buckets : t.buckets ≡ b
  pub count : t.count ≡ n

pub record GroupParts (t : GroupRows) (s : Store) (n : ℕ) : Type 0 where
  pub rows : t.rows.now ≡ s.group_rows
  pub texts : t.texts.now ≡ s.texts
  pub count : t.count ≡ n

pub record PathParts (t : PathIndex) (s : Store) (n : ℕ) : Type 0 where
  pub groups : GroupParts t.groups s n
  pub links : t.links.now ≡ s.path_links
  pub heads : t.heads.now ≡ s.path_heads
  pub buckets : t.buckets ≡ Layout.path_buckets s.header.allowed

pub record ChainParts (t : LeafChains) (s : Store) (n : ℕ) : Type 0 where
  pub groups : GroupParts t.groups s n
  pub links : t.links.now ≡ s.leaf_links

pub record LeafParts (t : LeafIndex) (s : Store) (n : ℕ) : Type 0 where
  pub chains : ChainParts t.chains s n
  pub heads : t.heads.now ≡ s.leaf_heads
  pub buckets : t.buckets ≡ Layout.leaf_buckets s.header.allowed
