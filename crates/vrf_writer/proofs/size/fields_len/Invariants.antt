-- The sum is the length of the fields so far.
use Rattle.vrf_store.specs.Store.{header_of, store_of}
use Rattle.vrf_writer.specs.Inner.Size.{field_bytes}
use Rattle.vrf_writer.proofs.Laws.Size.{Summed}
use Rattle.vrf_writer.proofs.size.fields_len.Given as goal

abbrev pub invariant-loop-e : goal.invariant-loop-e
invariant-loop-e l = Summed (field_bytes (store_of l.m)) (header_of l.m).fields l.sum l.e
