-- After an iteration, one more record is written.
use Rattle.vrf_model.specs.Writer.{encode_guid}
use Rattle.vrf_store.specs.Store.{header_of}
use Rattle.vrf_writer.specs.Inner.Rows.{guid_in}
use Rattle.vrf_writer.proofs.Laws.Each.{Sent}
use Rattle.vrf_writer.proofs.guids.put_guids.Given as goal

abbrev pub invariant-loop-i : goal.invariant-loop-i
invariant-loop-i l = Sent encode_guid (guid_in l.rows l.x) (header_of l.m).guids l.initial.out l.out l.at l.i
