-- Document 01's value for what a call takes, and its answer for each case of the code's answers. The contracts use these definitions.
use Rattle.std.specs.Prelude.{Bool, ℕ, Some, None, Result, Ok, Err}
use Rattle.std.specs.Prelude as std
use Rattle.std.proofs.Math.Option.{none, some}
use Rattle.vrf_bitio.specs.Reasons
use Rattle.vrf_bitio.specs.declared.Refusal.{Refusal}
use Rattle.vrf_model.specs.Book
use Rattle.vrf_model.specs.Block.{BlockCounts}
use Rattle.vrf_model.specs.Writer
use Rattle.vrf_model.specs.Writer.{written, not_written}
use Rattle.vrf_model.specs.Calls.{Answer, refusal-of, acted, field_placed, at_place, found, ran, block_counts, number}
use Rattle.vrf_model.specs.declared.Allowances.{Allowances}
use Rattle.vrf_model.specs.declared.CheckpointTables.{CheckpointTables}
use Rattle.vrf_model.specs.declared.Ran.{Ran}

-- the five allowances that a book is opened with
abbrev pub allowed_by : Allowances → Book.Allowances
allowed_by a = record { guids = a.guids; groups = a.groups; fields = a.fields; text = a.text; literals = a.literals }

-- a refusal carries a number and details a, b
abbrev pub refusal_of : Refusal → Answer
refusal_of r = refusal-of (Reasons.number r.reason) r.a r.b

abbrev pub acted_of : Result (Unit {0}) Refusal → Answer
acted_of (Ok u) = acted
acted_of (Err r) = refusal_of r

abbrev pub added_of : Result ℕ Refusal → Answer
added_of (Ok i) = at_place i
added_of (Err r) = refusal_of r

abbrev pub placed_of : Result Bool Refusal → Answer
placed_of (Ok placed) = field_placed placed
placed_of (Err r) = refusal_of r

abbrev pub found_of : Result (std.Option ℕ) Refusal → Answer
found_of (Ok (Some i)) = found (some i)
found_of (Ok None) = found none
found_of (Err r) = refusal_of r

abbrev pub ran_of : Result Ran Refusal → Answer
ran_of (Ok r) = ran r.count r.pos
ran_of (Err r) = refusal_of r

-- the seven counts
abbrev pub counts_of : CheckpointTables → BlockCounts
counts_of t = record {
  guids = t.guid_count;
  groups = t.group_count;
  fields = t.exported_fields;
  frame = t.frame_offset;
  indexed = t.indexed_paths;
  literals = t.literal_paths;
  resolved = t.resolved_path_indices;
}

abbrev pub tables_of : Result CheckpointTables Refusal → Answer
tables_of (Ok t) = block_counts (counts_of t)
tables_of (Err r) = refusal_of r

abbrev pub number_of : Result ℕ Refusal → Answer
number_of (Ok n) = number n
number_of (Err r) = refusal_of r

abbrev pub wrote_of : Result ℕ Refusal → Writer.Written
wrote_of (Ok n) = written n
wrote_of (Err r) = not_written (Reasons.number r.reason) r.a r.b
