-- `vrf_bitio::BitReader::read_last_chunk` satisfies its contract: its tests are those of the fifth byte in `chunks`.
use Rattle.std.specs.Prelude.{◌^◌}
use Rattle.std.proofs.lemmas.Result.{err_from_is_err_and}
use Rattle.vrf_bitio.specs.Answers.{rest_of}
use Rattle.vrf_bitio.proofs.Laws.Number.{chunks-lacks, last-runs-on, last-too-large, last-ends}
use Rattle.vrf_bitio.proofs.BitReader.read_last_chunk.Goals as goal

pub returns-in_err-b : goal.returns-in_err-b
returns-in_err-b c =
    let p = err_from_is_err_and c.from_residual.result c.from_residual.ensures.1 in
    rw (p.1, p.2) (chunks-lacks _ (2 ^ 28) _ _ (rest_of c.args.self.now) 0 c.in_err-b.ensures.0)

pub returns-then-b-eq1 : goal.returns-then-b-eq1
returns-then-b-eq1 c = last-runs-on _ (2 ^ 28) _ _ (rest_of c.args.self.now) c.in_ok-b.ensures.read c.if-b-eq1.true

pub returns-then-b-gt15 : goal.returns-then-b-gt15
returns-then-b-gt15 c = last-too-large _ (2 ^ 28) _ _ (rest_of c.args.self.now) c.in_ok-b.ensures.read c.if-b-eq1.false c.if-b-gt15.true

pub returns : goal.returns
returns c =
    let g = c.in_ok-b.ensures in
    rw c.with_chunk.ensures
    (record { read = last-ends _ (2 ^ 28) _ _ (rest_of c.args.self.now) g.read c.if-b-eq1.false c.if-b-gt15.false; same = g.same; first = g.first; count = g.count })
