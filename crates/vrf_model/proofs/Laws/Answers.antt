-- Two answers of the code that mean the same answer of document 01 are equal. Used in `vrf_schema` (Laws/Determined.antt).
use Rattle.std.specs.Prelude.{◌≡◌, refl, Bool, ℕ, Option as Maybe, Some, None, Result, Ok, Err}
use Rattle.std.proofs.Common.{ap}
use Rattle.vrf_bitio.proofs.Laws.Determined.{same-details}
use Rattle.vrf_bitio.proofs.Laws.Cases.{clash}
use Rattle.vrf_bitio.specs.declared.Refusal.{Refusal}
use Rattle.vrf_model.specs.Block.{BlockCounts}
use Rattle.vrf_model.specs.Answers.{acted_of, added_of, placed_of, found_of, ran_of, counts_of, tables_of, number_of, wrote_of}
use Rattle.vrf_model.specs.declared.CheckpointTables.{CheckpointTables}
use Rattle.vrf_model.specs.declared.Ran.{Ran}

same_tables : (t u : CheckpointTables) → counts_of t ≡ counts_of u → t ≡ u
same_tables t u e = ap (λ (c : BlockCounts). record {
  guid_count = c.guids;
  group_count = c.groups;
  exported_fields = c.fields;
  frame_offset = c.frame;
  indexed_paths = c.indexed;
  literal_paths = c.literals;
  resolved_path_indices = c.resolved;
}) e

pub same-acted : (r q : Result (Unit {0}) Refusal) → acted_of r ≡ acted_of q → r ≡ q
same-acted (Ok u) (Ok v) e = refl
same-acted (Ok u) (Err y) e = clash cc
same-acted (Err x) (Ok v) e = clash cc
same-acted (Err x) (Err y) e = ap Err (same-details x y (cc) (cc) cc)

pub same-added : (r q : Result ℕ Refusal) → added_of r ≡ added_of q → r ≡ q
same-added (Ok i) (Ok j) e = cc
same-added (Ok i) (Err y) e = clash cc
same-added (Err x) (Ok j) e = clash cc
same-added (Err x) (Err y) e = ap Err (same-details x y (cc) (cc) cc)

pub same-placed : (r q : Result Bool Refusal) → placed_of r ≡ placed_of q → r ≡ q
same-placed (Ok b) (Ok c) e = cc
same-placed (Ok b) (Err y) e = clash cc
same-placed (Err x) (Ok c) e = clash cc
same-placed (Err x) (Err y) e = ap Err (same-details x y (cc) (cc) cc)

pub same-found : (r q : Result (Maybe ℕ) Refusal) → found_of r ≡ found_of q → r ≡ q
same-found (Ok (Some i)) (Ok (Some j)) e = cc
same-found (Ok (Some i)) (Ok None) e = clash cc
same-found (Ok (Some i)) (Err y) e = clash cc
same-found (Ok None) (Ok (Some j)) e = clash cc
same-found (Ok None) (Ok None) e = refl
same-found (Ok None) (Err y) e = clash cc
same-found (Err x) (Ok (Some j)) e = clash cc
same-found (Err x) (Ok None) e = clash cc
same-found (Err x) (Err y) e = ap Err (same-details x y (cc) (cc) cc)

same-run : (r q : Ran) → r.count ≡ q.count → r.pos ≡ q.pos → r ≡ q
same-run r q n p = λ i. record { count = n i; pos = p i }

pub same-ran : (r q : Result Ran Refusal) → ran_of r ≡ ran_of q → r ≡ q
same-ran (Ok r) (Ok q) e = ap Ok (same-run r q (cc) (cc))
same-ran (Ok r) (Err y) e = clash cc
same-ran (Err x) (Ok q) e = clash cc
same-ran (Err x) (Err y) e = ap Err (same-details x y (cc) (cc) cc)

pub same_read : (r q : Result CheckpointTables Refusal) → tables_of r ≡ tables_of q → r ≡ q
same_read (Ok t) (Ok u) e = ap Ok (same_tables t u cc)
same_read (Ok t) (Err y) e = clash cc
same_read (Err x) (Ok u) e = clash cc
same_read (Err x) (Err y) e = ap Err (same-details x y (cc) (cc) cc)

pub same_number : (r q : Result ℕ Refusal) → number_of r ≡ number_of q → r ≡ q
same_number (Ok m) (Ok n) e = cc
same_number (Ok m) (Err y) e = clash cc
same_number (Err x) (Ok n) e = clash cc
same_number (Err x) (Err y) e = ap Err (same-details x y (cc) (cc) cc)

pub same-wrote : (r q : Result ℕ Refusal) → wrote_of r ≡ wrote_of q → r ≡ q
same-wrote (Ok m) (Ok n) e = cc
same-wrote (Ok m) (Err y) e = clash cc
same-wrote (Err x) (Ok n) e = clash cc
same-wrote (Err x) (Err y) e = ap Err (same-details x y (cc) (cc) cc)
