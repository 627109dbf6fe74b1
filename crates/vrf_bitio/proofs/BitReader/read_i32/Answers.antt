-- `vrf_bitio::BitReader::read_i32` satisfies its contract: it reads the word and converts it to a signed number.
use Rattle.std.proofs.Common.{to_z-of_z}
use Rattle.std.specs.Int.{w32}
use Rattle.std.proofs.lemmas.Result.{err_from_is_err_and}
use Rattle.vrf_bitio.specs.Number.{word32, int32, signed}
use Rattle.vrf_bitio.proofs.Laws.Answers.{refused-first, gave_then, gave-return}
use Rattle.vrf_bitio.proofs.BitReader.read_i32.Goals as goal

pub returns-in_err-read_u32 : goal.returns-in_err-read_u32
unfolding int32
returns-in_err-read_u32 c =
    let t = c.in_err-read_u32.ensures in
    let p = err_from_is_err_and c.from_residual.result c.from_residual.ensures.1 in
    rw (p.1, p.2) (refused-first c.args.self.now word32 _ t.0, t.1)

pub returns : goal.returns
unfolding int32 signed
returns c =
    rw (to_z-of_z {w = w32} {z = c.cast_signed.result} (record { sfits = c.cast_signed.type_inv }), c.cast_signed.ensures)
    (gave_then c.args.self.now word32 _ c.in_ok-read_u32.ensures (gave-return c.read_u32.new.self _))
