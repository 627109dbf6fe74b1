-- `vrf_bitio::put_word` satisfies its contract: the part now holds the bytes of v.
use Rattle.std.proofs.Common.{◌∙◌}
use Rattle.vrf_bitio.proofs.Copies.{word_bytes}
use Rattle.vrf_bitio.proofs.Laws.Number.{low_bytes-length}
use Rattle.vrf_bitio.proofs.Laws.Pasted.{put_mid-pasted}
use Rattle.vrf_bitio.proofs.put_word.Goals as goal

pub returns : goal.returns
returns c =
    let a = c.args in
    put_mid-pasted _ _ a.at 8 (c.copy_from_slice.ensures.after ∙ c.to_le_bytes.ensures ∙ word_bytes a.v) (low_bytes-length 8 a.v)
