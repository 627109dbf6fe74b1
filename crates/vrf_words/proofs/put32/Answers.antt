-- `vrf_words::put32` satisfies its contract: the part now holds the low bytes of v.
use Rattle.std.proofs.Common.{◌≡◌, ◌/◌, ◌∙◌, arith}
use Rattle.vrf_bitio.specs.Number.{low_bytes}
use Rattle.vrf_words.specs.Inner.Words.{set_word}
use Rattle.vrf_words.proofs.Writes.{put_mid-pasted}
use Rattle.vrf_words.proofs.put32.Goals as goal

pub returns : goal.returns
unfolding set_word low_bytes
returns c =
    let v = c.args.v in
    let e₂ : v / 65536 ≡ v / 256 / 256 = omega arith in
    let e₃ : v / 16777216 ≡ v / 256 / 256 / 256 = omega arith in
    put_mid-pasted _ (low_bytes 4 v) _ _ (c.copy_from_slice.ensures.after ∙ c.to_le_bytes.ensures ∙ rw (e₂, e₃)) (omega arith)
