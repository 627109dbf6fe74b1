-- `vrf_reader::names::read_fname` satisfies its contract: the kind byte, then a name of that kind.
use Rattle.std.specs.Prelude.{Ok, Err}
use Rattle.vrf_bitio.specs.Number.{byte}
use Rattle.vrf_bitio.proofs.Laws.Answers.{refused-first}
use Rattle.vrf_model.specs.Names.{fname}
use Rattle.vrf_reader.proofs.Laws.Texts.{text-passed-on, text-kind, index-kind}
use Rattle.vrf_reader.proofs.names.read_fname.Goals as goal

pub returns-in_err-read_u8-clause-reads : goal.returns-in_err-read_u8-clause-reads
unfolding fname
returns-in_err-read_u8-clause-reads c =
    text-passed-on _ _ _ _ _ c.from_residual.ensures.1 (refused-first c.args.reader.now byte _ c.in_err-read_u8.ensures.0)

pub returns-in_err-n-clause-reads : goal.returns-in_err-n-clause-reads
returns-in_err-n-clause-reads c =
    text-passed-on _ _ _ _ _ c.from_residual-in_err-n.ensures.1
    (text-kind c.in_ok-read_u8.ensures c.args.reader.now c.args.scratch.now (Err _) c.if-branch-eq0.true c.in_err-n.ensures)

pub returns-in_err-n-2-clause-reads : goal.returns-in_err-n-2-clause-reads
returns-in_err-n-2-clause-reads c =
    text-passed-on _ _ _ _ _ c.from_residual-in_err-n-2.ensures.1
    (index-kind c.in_ok-read_u8.ensures c.args.reader.now c.args.scratch.now (Err _) c.if-branch-eq0.false c.in_err-n-2.ensures)

pub returns-in_ok-n-clause-reads : goal.returns-in_ok-n-clause-reads
returns-in_ok-n-clause-reads c = text-kind c.in_ok-read_u8.ensures _ _ (Ok _) c.if-branch-eq0.true c.in_ok-n.ensures

pub returns-in_ok-n-2-clause-reads : goal.returns-in_ok-n-2-clause-reads
returns-in_ok-n-2-clause-reads c = index-kind c.in_ok-read_u8.ensures _ _ (Ok _) c.if-branch-eq0.false c.in_ok-n-2.ensures
