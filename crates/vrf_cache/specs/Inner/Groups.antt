-- Contracts of the functions of `groups`: a group is appended, merged or replaced.
use Rattle.std.specs.Prelude.{◌≡◌, List, [], ◌∷◌, ◌++◌, ℕ, ◌+◌, ◌<◌, ◌≤◌, ◌-◌, length, get_or, set}
use Rattle.std.proofs.Math.Option.{none}
use Rattle.vrf_text.specs.Text.{IsText}
use Rattle.vrf_words.specs.Words.{part}
use Rattle.vrf_model.specs.Book.{Group, Content}
use Rattle.vrf_model.specs.Lookup.{place_or, index_place}
use Rattle.vrf_model.specs.Setting.{with_groups, Step, keep, schema_step, merged_group, replaced_step}
use Rattle.vrf_table.specs.declared.TextSpan.{TextSpan}
use Rattle.vrf_store.specs.Store.{allowances_of, header_of, store_of}
use Rattle.vrf_store.specs.Inner.WellFormed.{WellFormed}
use Rattle.vrf_store.specs.Inner.Stepped.{held, Stepped}
use Rattle.vrf_store.specs.Inner.Fields.{with_group}
use Rattle.vrf_store.specs.Inner.Groups.{Only}

-- ---- the group at a place

-- the default past the last group
unfoldable pub no_group : Group
no_group = record { path = []; index = 0; slots = [] }

abbrev pub group_at : Content → ℕ → Group
group_at c e = get_or c.groups e no_group

-- the length of the path of the group at place e
abbrev pub path_bytes : Content → ℕ → ℕ
path_bytes c e = length (place_or (λ (g : Group). g.path) [] c.groups e)

-- ---- one more group

-- the group g appended to the group list
abbrev pub with_new : Content → Group → Content
with_new c g = with_groups c (c.groups ++ (g ∷ []))

-- the step that appends g and answers its place
abbrev pub appending : Content → Group → Step ℕ
appending c g = keep (length c.groups) (with_new c g) schema_step

-- what `append_group` requires: no group has the index
pub record GroupToAdd (m path : List ℕ) (index slots : ℕ) : Type 0 where
  pub good : WellFormed m
  pub is_text : IsText path
  pub new : index_place index (held m).groups ≡ none
  pub handles : slots ≤ 65536

-- ---- a new path of a group

-- a group with this path and its own index and slots
abbrev pub repath : List ℕ → Group → Group
repath path g = record { path = path; index = g.index; slots = g.slots }

-- what merging into group e, or replacing it, requires: no other group has the index
pub record GroupRequest (m path : List ℕ) (e index slots : ℕ) : Type 0 where
  pub good : WellFormed m
  pub is_text : IsText path
  pub known : e < (header_of m).groups
  pub free : Only e (index_place index (held m).groups)
  pub handles : slots ≤ 65536

-- a path of n bytes in place of the path of group e is within allowance 4
pub record PathFits (m : List ℕ) (e n : ℕ) : Type 0 where
  pub good : WellFormed m
  pub known : e < (header_of m).groups
  pub space : (header_of m).held - path_bytes (held m) e + n ≤ (allowances_of m).text

-- group e has some path `old`, nothing else is changed, and n more text bytes are within allowance 4
pub record PathReleased (m m' : List ℕ) (e n : ℕ) : Type 0 where
  pub old : List ℕ
  pub stepped : Stepped m m' (with_group (held m) e (repath old))
  pub space : (header_of m').held + n ≤ (allowances_of m').text

-- the path is in the texts, after group e may have released its own
pub record PathWritten (m path m' : List ℕ) (e : ℕ) (span : TextSpan) : Type 0 where
  pub freed : PathReleased m m' e (length path)
  pub within : span.at + span.len ≤ (header_of m').used
  pub long : span.len ≡ length path
  pub text : part (store_of m').texts span.at span.len ≡ path

-- ---- merging and replacing

-- the step that merges into group e
abbrev pub merging : Content → (e : ℕ) → List ℕ → (index slots : ℕ) → Step ℕ
merging c e path index slots = keep e (with_group c e (merged_group path index slots)) schema_step

-- the step that replaces group e by g
abbrev pub replacing : Content → (e : ℕ) → Group → Step ℕ
replacing c e g = keep e (with_groups c (set c.groups e g)) replaced_step

-- what merging requires where the path was found at group e
pub record MergeRequest (m path : List ℕ) (e slots : ℕ) : Type 0 where
  pub good : WellFormed m
  pub is_text : IsText path
  pub known : e < (header_of m).groups
  pub handles : slots ≤ 65536
