-- What the code's answers mean: a front part of a text, a key as the recipe that makes it from its path, a leaf, a toggle and a stem. The
-- code's `Option` (`Maybe`, `Some`, `None`) is another type than the definitions' (`Option`, `some`, `none`).
use Rattle.std.specs.Prelude.{◌≡◌, cond, List, [], ◌∷◌, ◌++◌, ℕ, ◌+◌, ◌<◌, ◌≤◌, length, get_or, take, drop, Some, None}
use Rattle.std.specs.Prelude.{Option as Maybe}
use Rattle.std.proofs.Math.Option.{Option, none, some}
use Prim.Native.Char.{code}
use Rattle.vrf_path.specs.Text.{starts_with, first_from}
use Rattle.vrf_path.specs.Keys.{default_prefix, core_segment, characters_root, characters_core, has_separator}
use Rattle.vrf_path.specs.Leaf.{leaf}
use Rattle.vrf_path.specs.Toggle.{class_net_cache, toggle}
use Rattle.vrf_path.specs.Stems.{cuts_below, is_digit, is_capital, digits_from, digit_stems, capital_stems, stems}
use Rattle.vrf_path.specs.declared.Key.{Key}
use Rattle.vrf_path.specs.declared.Key.TheVariants.{Itself, Stripped, Prefixed, Cut, Inserted}
use Rattle.vrf_path.specs.declared.Phase.{Phase}
use Rattle.vrf_path.specs.declared.Phase.TheVariants.{Underscore, Digits, Capital}
use Rattle.vrf_path.specs.declared.Stem.{Stem}
use Rattle.vrf_path.specs.declared.Toggle.{Toggle}
use Rattle.vrf_path.specs.declared.Toggle.TheVariants.{Stripped as WithoutSuffix, Appended}

-- s is the first n bytes of t
abbrev pub Front : List ℕ → List ℕ → ℕ → Type 0
Front s t n = (take n t ≡ s) × (n ≤ length t)

-- the key of the path t that this recipe makes
abbrev pub key_bytes : List ℕ → Key → List ℕ
key_bytes t Itself = t
key_bytes t Stripped = drop 9 t
key_bytes t Prefixed = default_prefix ++ t
key_bytes t (Cut i) = take i t ++ (code "/" ∷ drop (i + 7) t)
key_bytes t Inserted = characters_core ++ drop 17 t

-- the same, where the path may have no such key
abbrev pub spelled : List ℕ → Maybe Key → Option (List ℕ)
spelled t (Some k) = some (key_bytes t k)
spelled t None = none

-- the bytes of the key, none if the path has no such key
abbrev pub bytes_if_any : List ℕ → Maybe Key → List ℕ
bytes_if_any t (Some k) = key_bytes t k
bytes_if_any t None = []

-- the recipe of the default alias and of the core alias of the path t, by the cases of `default_alias` and `core_alias`
unfoldable pub default_key : List ℕ → Maybe Key
default_key t = cond (starts_with default_prefix t) (Some Stripped) (cond (has_separator t) None (Some Prefixed))

unfoldable pub core_key_at : List ℕ → Option ℕ → Maybe Key
core_key_at t (some i) = Some (Cut i)
core_key_at t none = cond (starts_with characters_root t) (Some Inserted) None

unfoldable pub core_key : List ℕ → Maybe Key
core_key t = core_key_at t (first_from core_segment 0 t)

-- The recipe r makes the alias of the path t, and is the one that `key` gives. The text alone would not determine r:
-- `/_Core/_Core/_Core/` can be cut at two places with the same result.
pub record KeyAnswer (t : List ℕ) (alias : List ℕ → Option (List ℕ)) (key : List ℕ → Maybe Key) (r : Maybe Key) : Type 0 where
  pub text : spelled t r ≡ alias t
  pub made : r ≡ key t

-- the place where the leaf of the path t starts
abbrev pub LeafAnswer : List ℕ → Maybe ℕ → Type 0
LeafAnswer t (Some i) = (leaf t ≡ some (drop i t)) × (i < length t)
LeafAnswer t None = leaf t ≡ none

-- the toggle of the key t
abbrev pub ToggleAnswer : List ℕ → Maybe Toggle → Type 0
ToggleAnswer t (Some (WithoutSuffix n)) = (toggle t ≡ some (take n t)) × (n ≤ length t)
ToggleAnswer t (Some Appended) = toggle t ≡ some (t ++ class_net_cache)
ToggleAnswer t None = toggle t ≡ none

-- the stems that come after the first n bytes of a name, where those were made by this rule
abbrev pub stems_after : List ℕ → ℕ → Phase → List (List ℕ)
stems_after name n Underscore = cuts_below name n ++ digit_stems name (digits_from name (length name))
stems_after name n Digits = capital_stems name n
stems_after name n Capital = []

-- a stem and the stems after it
abbrev pub stems_from : List ℕ → Maybe Stem → List (List ℕ)
stems_from name (Some s) = take s.len name ∷ stems_after name s.len s.phase
stems_from name None = []

-- the stems after the one that was given last, or all of them before the first
abbrev pub stems_since : List ℕ → Maybe Stem → List (List ℕ)
stems_since name (Some s) = stems_after name s.len s.phase
stems_since name None = stems name

-- the number of bytes of a stem
abbrev pub stem_length : Maybe Stem → ℕ
stem_length (Some s) = s.len
stem_length None = 0

-- the rule that made the stem of n bytes: the byte after it is a digit, a capital, or neither
unfoldable pub rule_at : List ℕ → ℕ → Phase
rule_at name n = cond (is_digit (get_or name n 0)) Digits (cond (is_capital (get_or name n 0)) Capital Underscore)

abbrev pub Ruled : List ℕ → Maybe Stem → Type 0
Ruled name (Some s) = s.phase ≡ rule_at name s.len
Ruled name None = Unit {0}

-- the stems l are this stem, made by its rule, and the stems after it
pub record StemAnswer (name : List ℕ) (l : List (List ℕ)) (s : Maybe Stem) : Type 0 where
  pub stems : l ≡ stems_from name s
  pub within : stem_length s ≤ length name
  pub rule : Ruled name s
