-- The contract of `read_checkpoint_tables`.
use Rattle.std.specs.Prelude.{List, ℕ, Result, Ok, Err}
use Rattle.vrf_bitio.specs.declared.BitReader.{BitReader}
use Rattle.vrf_bitio.specs.declared.Refusal.{Refusal}
use Rattle.vrf_model.specs.Parser.{Parser}
use Rattle.vrf_model.specs.Block.{BlockCounts}
use Rattle.vrf_model.specs.Answers.{counts_of}
use Rattle.vrf_model.specs.declared.CheckpointTables.{CheckpointTables}
use Rattle.vrf_reader.specs.Inner.Simulates.{Refines}

-- the seven counts, or a refusal
abbrev pub BlockReads : Parser BlockCounts → BitReader → BitReader → List ℕ → List ℕ → Result CheckpointTables Refusal → Type 0
BlockReads k r d m m' (Ok t) = Refines k r d m m' (Ok (counts_of t))
BlockReads k r d m m' (Err e) = Refines k r d m m' (Err e)
