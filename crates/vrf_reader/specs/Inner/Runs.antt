-- The contract of `read_run`, which reads either export run: what it requires of the function that reads an entry.
use Rattle.std.specs.Prelude.{List, ℕ, Result, ◌≤◌, length}
use Rattle.std.specs.Borrow.{MutBor}
use Rattle.std.specs.Fn.{Mut, Called}
use Rattle.vrf_bitio.specs.declared.BitReader.{BitReader}
use Rattle.vrf_bitio.specs.declared.Refusal.{Refusal}
use Rattle.vrf_model.specs.Parser.{Parser}
use Rattle.vrf_store.specs.Inner.WellFormed.{WellFormed}
use Rattle.vrf_reader.specs.Inner.Simulates.{Refines}
use Rattle.vrf_reader.specs.Inner.Within.{SameWindow}

-- what an entry's reader takes: the reader, the memory and the scratch buffer
abbrev pub EntryArgs : Type 0
EntryArgs = MutBor BitReader × (MutBor (List ℕ) × (MutBor (List ℕ) × Unit {0}))

-- such arguments at any place of r's window
pub record EntryAsked (r : BitReader) (a : EntryArgs) : Type 0 where
  pub window : SameWindow r a.0.now
  pub good : WellFormed a.1.0.now
  pub wide : 4096 ≤ length a.1.1.0.now

-- an entry's reader may be called at any place of r's window, and each call refines the definition k
pub record ReadsEntries {F : Type 0} (g : Mut F EntryArgs (Result (Unit {0}) Refusal × EntryArgs)) (k : Parser (Unit {0})) (r : BitReader) : Type 0 where
  pub takes : (f : F) (a : EntryArgs) → EntryAsked r a → g.pre f a
  pub gives : (f : F) (a : EntryArgs) (o : Result (Unit {0}) Refusal) (left : EntryArgs) (f' : F) → EntryAsked r a → Called g f a (o, left) f'
      → Refines k a.0.now left.0.now a.1.0.now left.1.0.now o
