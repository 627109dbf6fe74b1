-- The GUID entries of a written block are read back (document 01, Blocks): each appends its record to a book that holds no groups yet.
use Rattle.std.specs.Prelude.{◌≡◌}
use mathlib.Core.List.{List, [], ◌∷◌, ◌++◌, append-nil, map}
use Rattle.std.proofs.Math.Option.{none}
use Prim.Native.Nat.{ℕ, suc, ◌+◌, ◌≤◌}
use Rattle.std.proofs.Common.{add-zero, le-ltb}
use native.Mathlib.Omega.{arith}
use Rattle.std.proofs.Math.ListN.{length}
use Rattle.std.proofs.Math.Seq.{append_snoc}
use Rattle.vrf_text.specs.Text.{IsText, encode_text}
use Rattle.vrf_model.specs.Book.{Guid, Allowances, Content, Increments, no_increment, add_increments}
use Rattle.vrf_model.specs.Lookup.{guid_place}
use Rattle.vrf_model.specs.Setting.{done, guid_step, with_guids, set_guid_at, set_guid}
use Rattle.vrf_model.specs.Block.{PathTable, take_literal, literal, by_table, path_of_kind, block_guid, block_guids}
use Rattle.vrf_model.specs.Writer.{encode_guid, encode_all}
use Rattle.vrf_model.specs.Lawful.{Each, cons, Distinct, LawfulGuid, WithinAllowances}
use Rattle.vrf_model.proofs.Laws.Places.{not-before}
use Rattle.vrf_model.proofs.Laws.Held.{keep-within, listed, guids-within}
use Rattle.vrf_model.proofs.Laws.Parser.{none-add, ParsesTo, parses-return, parses-step, parses-then, quiet_then, parses-last, then-return, parses-byte, parses-number, parses-text}

-- a table with the paths of some GUIDs as further literals
abbrev pub with_paths : PathTable → List Guid → PathTable
with_paths t l = record { paths = t.paths ++ map (λ r. r.path) l; literals = t.literals + length l; indexed = t.indexed; resolved = t.resolved }

-- kind 1: one more literal is within allowance 5
literal-taken : (n : ℕ) (c : Content) → n ≤ c.allowed.literals → take_literal n c ≡ done tt c no_increment
unfolding take_literal
literal-taken n c h = rw (le-ltb c.allowed.literals n h)

path-parses : (entry : ℕ) (t : PathTable) (r : Guid) (c : Content) → IsText r.path → t.literals + 1 ≤ c.allowed.literals
    → ParsesTo (path_of_kind by_table entry t 1) (encode_text r.path) (r.path, with_paths t (r ∷ [])) c c no_increment
unfolding path_of_kind by_table literal
path-parses entry t r c text space =
    rw (← none-add no_increment) (parses-last _ (parses-text r.path text c) (then-return _ (parses-step (take_literal (t.literals + 1)) c (literal-taken (t.literals + 1) c space))))

-- a GUID that is not held is appended
appended : (r : Guid) (c : Content) → guid_place r.guid c.guids ≡ none → WithinAllowances (with_guids c (c.guids ++ (r ∷ []))) → set_guid r.guid r.path r.outer c ≡ done tt (with_guids c (c.guids ++ (r ∷ []))) guid_step
unfolding set_guid set_guid_at
appended r c new w = rw new (keep-within tt (with_guids c (c.guids ++ (r ∷ []))) guid_step w)

guid-parses : (entry : ℕ) (t : PathTable) (r : Guid) (c : Content) → LawfulGuid r → t.literals + 1 ≤ c.allowed.literals
    → guid_place r.guid c.guids ≡ none → WithinAllowances (with_guids c (c.guids ++ (r ∷ [])))
    → ParsesTo (block_guid by_table entry t) (encode_guid r) (with_paths t (r ∷ [])) c (with_guids c (c.guids ++ (r ∷ []))) guid_step
unfolding block_guid encode_guid
guid-parses entry t r c good space new w =
    quiet_then _ (parses-number r.guid good.guid c)
    (quiet_then _ (parses-number r.outer good.outer c)
    (quiet_then _ (parses-byte 1 c)
    (quiet_then _ (path-parses entry t r c good.path space)
    (quiet_then _ (parses-byte 0 c)
    (then-return _ (parses-step (set_guid r.guid r.path r.outer) c (appended r c new w)))))))

-- n GUIDs, each appended
abbrev pub guid_steps : ℕ → Increments
guid_steps n = record { schema = 0; guid = n; dropped = 0; replaced = 0; renamed = 0 }

one-more : (n : ℕ) → add_increments guid_step (guid_steps n) ≡ guid_steps (suc n)
unfolding add_increments guid_step
one-more n = let e : 1 + n ≡ suc n = omega arith in rw e

module _ (a : Allowances) where
  -- the entries of l are read after the records p
  abbrev GuidsBrought : ℕ → PathTable → List Guid → List Guid → Type 0
  GuidsBrought entry t p l = ParsesTo (block_guids by_table (length l) entry t) (encode_all encode_guid l) (with_paths t l) (listed a p []) (listed a (p ++ l) []) (guid_steps (length l))

  no-guids : (entry : ℕ) (t : PathTable) (p : List Guid) → GuidsBrought entry t p []
  unfolding block_guids encode_all no_increment
  no-guids entry t p = rw (append-nil p, append-nil t.paths, add-zero) (parses-return t _)

  one-guid : (entry : ℕ) (t : PathTable) (p : List Guid) (r : Guid) (l : List Guid) → LawfulGuid r → Distinct (λ x. x.guid) (p ++ (r ∷ l)) → t.literals + 1 ≤ a.literals
      → WithinAllowances (listed a ((p ++ (r ∷ [])) ++ l) []) → GuidsBrought (entry + 1) (with_paths t (r ∷ [])) (p ++ (r ∷ [])) l → GuidsBrought entry t p (r ∷ l)
  unfolding block_guids encode_all with_guids guid_place
  one-guid entry t p r l good d space w rest =
      let this = guid-parses entry t r (listed a p []) good space (not-before _ p r l d) (guids-within a (p ++ (r ∷ [])) l [] w) in
      let count : t.literals + 1 + length l ≡ t.literals + suc (length l) = omega arith in
      rw (← append_snoc p r l, ← append_snoc t.paths r.path (map (λ x. x.path) l), ← count, ← one-more (length l)) (parses-then _ this rest)

  pub guids-parse : (entry : ℕ) (t : PathTable) (p l : List Guid) → Each LawfulGuid l → Distinct (λ x. x.guid) (p ++ l) → t.literals + length l ≤ a.literals
      → WithinAllowances (listed a (p ++ l) []) → GuidsBrought entry t p l
  guids-parse entry t p [] good d space w = no-guids entry t p
  guids-parse entry t p (r ∷ l) (cons g gs) d space w =
      let e : (p ++ (r ∷ [])) ++ l ≡ p ++ (r ∷ l) = append_snoc p r l in
      let w' : WithinAllowances (listed a ((p ++ (r ∷ [])) ++ l) []) = rw e w in
      one-guid entry t p r l g d (omega arith) w' (guids-parse (entry + 1) (with_paths t (r ∷ [])) (p ++ (r ∷ [])) l gs (rw e d) (omega arith) w')
