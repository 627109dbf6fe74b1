-- The three sums and two bytes for each record are the length of the records so far.
use Rattle.std.proofs.Common.{ℕ, ◌+◌, ◌*◌, length}
use Rattle.vrf_model.specs.Writer.{encode_guid}
use Rattle.vrf_writer.specs.Inner.Rows.{guid_in}
use Rattle.vrf_writer.proofs.Laws.Size.{Summed}
use Rattle.vrf_writer.proofs.size.guids_len.Given as goal

abbrev pub invariant-loop-i : goal.invariant-loop-i
invariant-loop-i l = Summed (λ (e : ℕ). length (encode_guid (guid_in l.rows l.x e))) l.n (l.keys + l.outers + l.paths + 2 * l.i) l.i
