-- `vrf_reader::guids::guid_entry` satisfies its contract: the size, then the payload.
use Rattle.vrf_bitio.specs.Number.{word32}
use Rattle.vrf_model.specs.Runs.{guid_entry}
use Rattle.vrf_reader.proofs.Laws.Simulates.{read-stops, passed-on}
use Rattle.vrf_reader.proofs.Laws.Guids.{entry-negative, entry-refused, entry_read}
use Rattle.vrf_reader.proofs.guids.guid_entry.Goals as goal

pub returns-in_err-size-clause-reads : goal.returns-in_err-size-clause-reads
unfolding guid_entry
returns-in_err-size-clause-reads c =
    passed-on _ _ _ c.from_residual.ensures.1 (read-stops word32 _ c.requires.0 _ c.in_err-size.ensures.0)

pub returns-then-size-ge2147483648-clause-reads : goal.returns-then-size-ge2147483648-clause-reads
returns-then-size-ge2147483648-clause-reads c = entry-negative c.requires.0 c.in_ok-size.ensures c.if-size-ge2147483648.true

pub returns-in_err-read_payload-clause-reads : goal.returns-in_err-read_payload-clause-reads
returns-in_err-read_payload-clause-reads c =
    passed-on _ _ _ c.from_residual-in_err-read_payload.ensures.1
    (entry-refused c.requires.0 c.in_ok-size.ensures c.if-size-ge2147483648.false _ c.in_err-read_payload.ensures)

pub returns-clause-reads : goal.returns-clause-reads
returns-clause-reads c = entry_read c.requires.0 c.in_ok-size.ensures c.if-size-ge2147483648.false _ c.in_ok-read_payload.ensures
