-- Document 01's entries for the examples table, computed from the definitions and gathered as a single checked list.
use Rattle.std.specs.Prelude.{◌≡◌, refl, List, [], ◌∷◌, map, Bool, true, ℕ, ℤ}
use Rattle.std.proofs.Math.Option.{none, some}
use Rattle.vrf_bitio.specs.Ascii.{ascii}
use Rattle.vrf_bitio.proofs.Examples.{Packed-examples, packed-examples}
use Rattle.vrf_path.specs.Keys.{keys}
use Rattle.vrf_names.specs.Names.{rendered}
use Rattle.vrf_model.specs.Book.{Content, Book, fresh_book}
use Rattle.vrf_model.specs.Setting.{refuses, add_group}
use Rattle.vrf_model.specs.Parser.{fail}
use Rattle.vrf_model.specs.Runs.{object_with_outer, object_at}
use Rattle.vrf_model.specs.Writer.{encode_book, written, not_written, write}
use Rattle.vrf_model.specs.Calls.{GroupLookup, GuidLookup, of_groups, of_guids, lookup, Call, add_export_group, set_field_on_group, set_net_guid_path, get_group_by_path, get_field, group_path, group_slots, Answer, acted, field_placed, at_place}
use Rattle.vrf_model.specs.Calls.{found, number, text, add_directly, play, answers}
use Rattle.vrf_model.proofs.Examples.Computing.{computing}

-- a call with its answer; `Answered`: the calls of a list answer so on a book
infix 70 ◌⇒◌
abbrev pub ◌⇒◌ : Call → Answer → Call × Answer
call ⇒ answer = (call, answer)

abbrev pub groups : GroupLookup → Call
groups l = lookup (of_groups l)

abbrev pub guids : GuidLookup → Call
guids l = lookup (of_guids l)

abbrev pub calls : List (Call × Answer) → List Call
calls l = map (λ x. x.0) l

abbrev pub Answered : List (Call × Answer) → Book → Type 0
Answered l b = answers (calls l) b ≡ map (λ x. x.1) l

unfoldable pub opened : Book
opened = fresh_book (record { guids = 10; groups = 10; fields = 10; text = 1000; literals = 10 })

-- the content after some calls on `opened`
abbrev pub after : List (Call × Answer) → Content
after l = (play (calls l) opened).content

abbrev G1-calls : List (Call × Answer)
G1-calls =
    add_export_group (ascii "/x/y") 1 0 ⇒ at_place 0 ∷
    add_export_group (ascii "/x/_Core/y") 2 3 ⇒ at_place 1 ∷
    set_field_on_group 2 1 7 (ascii "N") ⇒ field_placed true ∷
    groups (get_group_by_path (ascii "/x/y")) ⇒ found (some 1) ∷
    add_export_group (ascii "/x/y") 2 2 ⇒ at_place 1 ∷
    groups (group_path 0) ⇒ text (ascii "/x/y") ∷
    groups (group_path 1) ⇒ text (ascii "/x/y") ∷
    -- merged: the slots and the field in them stay
    groups (group_slots 1) ⇒ number 3 ∷
    groups (get_field 1 1) ⇒ found (some 7) ∷ []

abbrev G2-calls : List (Call × Answer)
G2-calls =
    add_export_group (ascii "/a.b") 5 3 ⇒ at_place 0 ∷
    set_field_on_group 5 1 7 (ascii "N") ⇒ field_placed true ∷
    add_export_group (ascii "/x/y") 6 0 ⇒ at_place 1 ∷
    add_export_group (ascii "/x/_Core/y") 5 2 ⇒ at_place 0 ∷
    groups (group_path 0) ⇒ text (ascii "/x/_Core/y") ∷
    -- replaced: the slots of the new group, and no field
    groups (group_slots 0) ⇒ number 2 ∷
    groups (get_field 0 1) ⇒ found none ∷ []

abbrev B1-calls : List (Call × Answer)
B1-calls = set_net_guid_path 2 (ascii "A") 0 ⇒ acted ∷ []

pub record Document-01-examples : Type 1 where
  pub P1-P4 : Packed-examples
  pub K1 : keys [] ≡ [] ∷ ascii "Default__" ∷ []
  pub K2 : keys (ascii "/x/_Core/y") ≡ ascii "/x/_Core/y" ∷ ascii "/x/y" ∷ []
  pub N1 : (rendered (ascii "Foo") (ℤ.pos 4) ≡ ascii "Foo_3") × (rendered (ascii "Foo") (ℤ.negsuc 2) ≡ ascii "Foo_-3")
  pub G1 : Answered G1-calls opened
  pub G1-counters : (play (calls G1-calls) opened).counters ≡ record { schema = 3; guid = 0; dropped = 0; replaced = 0; renamed = 0 }
  pub G1-writing : write 1000 (after G1-calls) ≡ not_written 44 1 0
  pub G2 : Answered G2-calls opened
  pub G2-counters : (play (calls G2-calls) opened).counters ≡ record { schema = 3; guid = 0; dropped = 0; replaced = 1; renamed = 0 }
  pub G2-writing : write 1000 (after G2-calls) ≡ not_written 44 1 0
  pub B1 : Answered B1-calls opened
  pub B1-fits : write 34 (after B1-calls) ≡ written 34
  pub B1-too-long : write 33 (after B1-calls) ≡ not_written 45 34 0
  pub B1-bytes : encode_book (after B1-calls)
      ≡ 26 ∷ 0 ∷ 0 ∷ 0 ∷ 0 ∷ 0 ∷ 0 ∷ 0 ∷ 0 ∷ 0 ∷ 0 ∷ 0 ∷ 0 ∷ 0 ∷ 0 ∷ 0 ∷ 1 ∷ 0 ∷ 0 ∷ 0
      ∷ 4 ∷ 0 ∷ 1 ∷ 2 ∷ 0 ∷ 0 ∷ 0 ∷ 65 ∷ 0 ∷ 0 ∷ 0 ∷ 0 ∷ 0 ∷ 0 ∷ []
  -- edges: 65,536 slots pass, 65,537 don't; depth 15 passes, 16 does not
  pub slots-pass : (path : List ℕ) (index : ℕ) (c : Content) → add_directly path index 65536 c ≡ add_group path index 65536 c
  pub slots-too-many : (path : List ℕ) (index : ℕ) (c : Content) → add_directly path index 65537 c ≡ refuses 22 65537 0
  pub depth-passes : (exporting : Bool) → object_at 15 exporting ≡ object_with_outer (fail 26 16 0) exporting
  pub depth-too-deep : (exporting : Bool) → object_at 16 exporting ≡ fail 26 16 0

pub document-01-examples : Document-01-examples
unfolding computing ascii opened
document-01-examples = record {
  P1-P4 = packed-examples;
  K1 = refl;
  K2 = refl;
  N1 = (refl, refl);
  G1 = refl;
  G1-counters = refl;
  G1-writing = refl;
  G2 = refl;
  G2-counters = refl;
  G2-writing = refl;
  B1 = refl;
  B1-fits = refl;
  B1-too-long = refl;
  B1-bytes = refl;
  slots-pass = λ path index c. refl;
  slots-too-many = λ path index c. refl;
  depth-passes = λ exporting. refl;
  depth-too-deep = λ exporting. refl;
}
