-- Document 01, section Keys: a path's keys are itself, its default alias and its core alias.
use Rattle.std.specs.Prelude.{Bool, false, cond, ◌||◌, ℕ, ◌+◌, eqb, length, take, drop}
use mathlib.Core.List.{List, [], ◌∷◌, ◌++◌, Option-to_list}
use Rattle.std.proofs.Math.Option.{Option, none, some}
use Prim.Native.Char.{code}
use Rattle.vrf_bitio.specs.Ascii.{ascii}
use Rattle.vrf_path.specs.Text.{same, starts_with, first_from}

unfoldable pub default_prefix : List ℕ
unfolding ascii
default_prefix = ascii "Default__"

unfoldable pub core_segment : List ℕ
unfolding ascii
core_segment = ascii "/_Core/"

unfoldable pub characters_root : List ℕ
unfolding ascii
characters_root = ascii "/Game/Characters/"

unfoldable pub characters_core : List ℕ
unfolding ascii
characters_core = ascii "/Game/Characters/_Core/"

-- one of `/ . :`
unfoldable pub is_separator : ℕ → Bool
is_separator b = eqb b (code "/") || (eqb b (code ".") || eqb b (code ":"))

unfoldable pub has_separator : List ℕ → Bool
has_separator [] = false
has_separator (b ∷ t) = is_separator b || has_separator t

-- default alias: without a leading `Default__`; otherwise, if the path has none of `/ . :`, with `Default__` before it
unfoldable pub default_alias : List ℕ → Option (List ℕ)
default_alias t =
    cond (starts_with default_prefix t) (some (drop (length default_prefix) t))
    (cond (has_separator t) none
    (some (default_prefix ++ t)))

-- core alias: the first `/_Core/`, at place i, becomes `/`; otherwise a leading `/Game/Characters/` becomes `/Game/Characters/_Core/`;
-- otherwise none
unfoldable pub core_alias_at : List ℕ → Option ℕ → Option (List ℕ)
core_alias_at t (some i) = some (take i t ++ (code "/" ∷ drop (i + length core_segment) t))
core_alias_at t none = cond (starts_with characters_root t) (some (characters_core ++ drop (length characters_root) t)) none

unfoldable pub core_alias : List ℕ → Option (List ℕ)
core_alias t = core_alias_at t (first_from core_segment 0 t)

unfoldable pub keys : List ℕ → List (List ℕ)
keys t = t ∷ (Option-to_list (default_alias t) ++ Option-to_list (core_alias t))

-- whether k is one of the texts
unfoldable pub is_one_of : List ℕ → List (List ℕ) → Bool
is_one_of k [] = false
is_one_of k (t ∷ ts) = same t k || is_one_of k ts

-- whether `key` is one of a path's keys
unfoldable pub has_key : List ℕ → List ℕ → Bool
has_key path key = is_one_of key (keys path)

-- whether there is a text and it is k
unfoldable pub key_is : Option (List ℕ) → List ℕ → Bool
key_is none k = false
key_is (some t) k = same t k
