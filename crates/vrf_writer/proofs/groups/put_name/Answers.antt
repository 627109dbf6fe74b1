-- Each part is written after those before it.
use Rattle.std.proofs.Common.{◌+◌, ◌≤◌, ℕ, List, ◌++◌, length, refl, arith}
use Rattle.std.specs.Prelude.{slice_set}
use Rattle.vrf_bitio.specs.Number.{encode_word32}
use Rattle.vrf_text.specs.Text.{encode_text}
use Rattle.vrf_writer.specs.Inner.Prefix.{WritesPrefix}
use Rattle.vrf_writer.specs.Inner.Groups.{name_code}
use Rattle.vrf_writer.proofs.Laws.Prefix.{PartlyWritten, lent_from, back_from, under-space, under-long, under-lent, under_next, under-byte, last-lent, last-put, last-space}
use Rattle.vrf_writer.proofs.Laws.Numbers.{word-length}
use Rattle.vrf_writer.proofs.Laws.Groups.{name-start}
use Rattle.vrf_writer.proofs.groups.put_name.Goals as goal

module _ (t l : List ℕ) (fits : length (name_code t) ≤ length l) where
  -- after the kind byte, and after the text
  kind : PartlyWritten (name_code t) l (slice_set l 0 0) 1 (encode_text t ++ encode_word32 0)
  kind = under-byte 0 (name-start t l fits)

  name : {ys : List ℕ} {n : ℕ} → WritesPrefix (encode_text t) (lent_from (slice_set l 0 0) 1) ys n → PartlyWritten (name_code t) l (back_from (slice_set l 0 0) 1 ys) (1 + n) (encode_word32 0)
  name p = under_next (encode_text t) (encode_word32 0) kind refl p

pub bounds-out-0 : goal.bounds-out-0
bounds-out-0 c = omega (arith, under-space (name-start c.args.t.now c.args.out.now c.requires.0))

pub slice_bounds-put_text-count : goal.slice_bounds-put_text-count
slice_bounds-put_text-count c = omega (arith, under-space (kind c.args.t.now c.args.out.now c.requires.0))

pub slice_bounds-put_text-start : goal.slice_bounds-put_text-start
slice_bounds-put_text-start c = omega (arith, under-space (kind c.args.t.now c.args.out.now c.requires.0))

pub put_text-at-requires : goal.put_text-at-requires
put_text-at-requires c =
    let t = c.args.t.now in
    (under-lent (encode_text t) (encode_word32 0) (kind t c.args.out.now c.requires.0) refl, c.requires.1)

pub overflow_add-at : goal.overflow_add-at
overflow_add-at c = let u = name c.args.t.now c.args.out.now c.requires.0 c.put_text-at.ensures in omega (arith, under-space u, under-long u)

pub slice_bounds-put_word-count : goal.slice_bounds-put_word-count
slice_bounds-put_word-count c = omega (arith, under-space (name c.args.t.now c.args.out.now c.requires.0 c.put_text-at.ensures))

pub slice_bounds-put_word-start : goal.slice_bounds-put_word-start
slice_bounds-put_word-start c = omega (arith, under-space (name c.args.t.now c.args.out.now c.requires.0 c.put_text-at.ensures))

pub put_word-requires : goal.put_word-requires
put_word-requires c = omega (arith, last-lent (name c.args.t.now c.args.out.now c.requires.0 c.put_text-at.ensures) refl, word-length 0)

pub overflow_add-result : goal.overflow_add-result
overflow_add-result c = omega (arith, c, last-space (name c.args.t.now c.args.out.now c.requires.0 c.put_text-at.ensures) refl c.put_word.ensures)

pub returns : goal.returns
returns c = last-put (name c.args.t.now c.args.out.now c.requires.0 c.put_text-at.ensures) refl c.put_word.ensures
