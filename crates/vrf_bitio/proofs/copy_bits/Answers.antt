-- `vrf_bitio::copy_bits` satisfies its contract: the loop writes the whole words, and the bits left after them are written last.
use Rattle.std.proofs.Common.{◌≡◌, ◌+◌, ◌/◌, ◌%◌, ◌∙◌, arith}
use Rattle.vrf_bitio.proofs.Copies.{copy_start, copy_step, last_word, copy-whole, copy-end}
use Rattle.vrf_bitio.proofs.copy_bits.Goals as goal

pub loop-k-init : goal.loop-k-init
loop-k-init c = copy_start _ _ _ _ c.load_u64-carry.ensures

pub loop-k-preserved : goal.loop-k-preserved
loop-k-preserved c = copy_step _ _ _ _ _ _ c.loop-k.invariant _ _ c.load_u64-next.ensures c.joined.ensures _ c.put_word.ensures (omega arith)

pub returns-then-left-gt0 : goal.returns-then-left-gt0
returns-then-left-gt0 c =
    let i = c.loop-k.invariant in
    let all : c.args.n / 64 ≡ c.loop-k.k = omega arith in
    let tail : c.div_ceil-tail.result ≡ (c.args.n % 64 + 7) / 8 = omega arith in
    rw tail at c.put_bytes.ensures ∙ copy-end _ _ _ _ _ _ i _ _ all (omega arith)
    (last_word _ _ _ _ _ _ i _ _ (rw all at c.load_u64.ensures) c.joined-last.ensures _ _ c.low_bits.ensures)

pub returns-else-left-gt0 : goal.returns-else-left-gt0
returns-else-left-gt0 c = copy-whole _ _ _ _ _ _ c.loop-k.invariant _ (omega arith) (omega arith) c.if-left-gt0.false
