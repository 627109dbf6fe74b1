-- `vrf_reader::names::read_text` satisfies its contract.
use Rattle.vrf_reader.proofs.Laws.Texts.{text_in}
use Rattle.vrf_reader.proofs.names.read_text.Goals as goal

pub returns-clause-reads : goal.returns-clause-reads
returns-clause-reads c = text_in _ _ c.args.scratch.now _ c.requires c.read_fstring.result c.read_fstring.ensures
