-- `vrf_words::put64` satisfies its contract: the part now holds the low bytes of both halves.
use Rattle.std.proofs.Common.{◌*◌, ◌/◌, ◌%◌, ◌^◌, ◌++◌, ◌∙◌, sym, arith}
use Rattle.vrf_bitio.specs.Number.{low_bytes}
use Rattle.vrf_bitio.proofs.Laws.Pasted.{pasted-append}
use Rattle.vrf_words.specs.Inner.Words.{set_word}
use Rattle.vrf_words.proofs.Writes.{put_mid-pasted, low_bytes_8}
use Rattle.vrf_words.proofs.put64.Goals as goal

pub returns : goal.returns
unfolding set_word low_bytes
returns c =
    let a = c.args in
    let lo = low_bytes 4 (a.v % 2 ^ 32) in
    let hi = low_bytes 4 (a.v / 2 ^ 32) in
    put_mid-pasted _ (lo ++ hi) _ _ (c.copy_from_slice.ensures.after ∙ c.to_le_bytes.ensures ∙ low_bytes_8 a.v) (omega arith)
    ∙ sym (pasted-append lo hi a.s.now (4 * a.i) _ (omega arith) (omega arith))
