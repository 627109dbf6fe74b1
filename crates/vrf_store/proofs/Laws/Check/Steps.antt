-- Laws about tests and loops of the code, and about the text of a group: the proofs of several crates use them.
use Rattle.std.specs.Prelude.{◌≡◌, ℕ, ◌+◌, ◌-◌, ◌^◌, ◌<◌, ◌≤◌, Bool, true, false, not, List, length, take, drop}
use Rattle.std.proofs.Common.{sym, ◌∙◌, add-one, arith, length-take, length-drop, take_all}
use Rattle.std.proofs.Math.Option.{some}
use Rattle.std.proofs.lemmas.Bool.{not-true, not-false}
use Rattle.vrf_path.specs.Leaf.{leaf}
use Rattle.vrf_path.specs.Inner.Leaf.{Dotless}
use Rattle.vrf_path.proofs.Laws.Leaf.{leaf-is}
use Rattle.vrf_table.specs.Table.{at, len, text}
use Rattle.vrf_store.specs.UpTo.{sum_below}
use Rattle.vrf_store.proofs.Laws.Check.Check.{row-length}

-- r is the answer of a test, and the code branches on `!r`
module _ {r a : Bool} (e : r ≡ a) where
  pub fails : not r ≡ true → a ≡ false
  fails t = sym e ∙ not-true r t

  pub holds : not r ≡ false → a ≡ true
  holds t = sym e ∙ not-false r t

pub sum-next : (f : ℕ → ℕ) (i : ℕ) → sum_below f (i + 1) ≡ sum_below f i + f i
unfolding sum_below
sum-next f i = rw add-one

-- ---- keys and leaves of group g, where path is its text

pub path-short : (r x : List ℕ) (g : ℕ) {path : List ℕ} → path ≡ text r x g → at r g + len r g ≤ length x → len r g ≤ 4096 → length path ≤ 4096
path-short r x g e within short = rw e (omega (arith, row-length (length x) x r (omega arith) g within, short))

pub leaf-short : (path : List ℕ) → length path < 2 ^ 31 → (i : ℕ) → length (take (length path - i) (drop i path)) < 2 ^ 31
leaf-short path h i = omega (arith, h, length-take (length path - i) (drop i path), length-drop i path)

-- `&t[i..]` is the text without its first i bytes
pub rest_part : (t : List ℕ) (i : ℕ) → take (length t - i) (drop i t) ≡ drop i t
rest_part t i = take_all (length t - i) (drop i t) (rw length-drop (omega arith))

-- a leaf has no dot
pub leaf-dotless : (t : List ℕ) (i : ℕ) → leaf t ≡ some (drop i t) → Dotless (take (length t - i) (drop i t))
leaf-dotless t i e = rw (rest_part t i) (leaf-is t (drop i t) e).dotless
