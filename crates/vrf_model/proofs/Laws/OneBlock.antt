-- A block determines the lists that it was written from (OneBlock.antt), for any two lawful books. The proof reads both blocks under the
-- largest allowances. Used in `vrf_schema` (Laws/OneBlock.antt).
use Rattle.std.specs.Prelude.{◌≡◌, refl, ℕ, ◌*◌, ◌≤◌, length}
use Rattle.std.proofs.Math.Path.{sym, ap}
use Rattle.std.proofs.Common.{◌∙◌, arith}
use mathlib.Core.List.{List, [], ◌++◌, append-nil}
use Rattle.vrf_model.specs.Book.{Allowances, Content, no_increment, fresh, held_fields, held_text}
use Rattle.vrf_model.specs.Parser.{parsed}
use Rattle.vrf_model.specs.Block.{by_table, block}
use Rattle.vrf_model.specs.Writer.{encode_tables, encode_book, written, write}
use Rattle.vrf_model.specs.Clash.{NoClash}
use Rattle.vrf_model.specs.Lawful.{Lawful}
use Rattle.vrf_model.specs.LateJoin.{counts_of_block}
use Rattle.vrf_model.specs.OneBlock.{SameLists, OneBlock}
use Rattle.vrf_model.proofs.Laws.Held.{listed}
use Rattle.vrf_model.proofs.Laws.ReadBack.Block.{increments_of_block, all-within, read_back}
use Rattle.vrf_model.proofs.Laws.Writer.{write-accepts}

-- ---- read under the largest allowances, a block gives its lists and leaves the bytes after it

largest : Allowances
largest = record { guids = 1000000; groups = 100000; fields = 1000000; text = 67108864; literals = 1000000 }

fitting : Content → Content
fitting c = listed largest c.guids c.groups

fitting-lawful : {a : Allowances} (c : Content) → Lawful a c → Lawful largest (fitting c)
unfolding fitting largest held_fields held_text
fitting-lawful c law =
    let w = all-within c law in
    record {
      allowed = refl;
      tops = omega arith;
      guids = law.guids;
      guids_distinct = law.guids_distinct;
      groups = law.groups;
      indices_distinct = law.indices_distinct;
      within = record {
        guids = omega (arith, w.guids, law.tops.guids);
        groups = omega (arith, w.groups, law.tops.groups);
        fields = omega (arith, w.fields, law.tops.fields);
        text = omega (arith, w.text, law.tops.text);
      };
    }

reads-fitting : {a : Allowances} (c : Content) → Lawful a c → NoClash c.groups → length (encode_book c) ≤ 268435456
    → (tail : List ℕ) → block by_table 0 (encode_book c ++ tail) (fresh largest) no_increment ≡ parsed (counts_of_block (fitting c)) (8 * length (encode_book c)) tail (fitting c) (increments_of_block (fitting c))
unfolding fitting largest encode_book encode_tables
reads-fitting c law clear size tail = read_back (fitting c) (fitting-lawful c law) clear size (omega arith) tail

-- ---- the bytes determine the lists

module _ {a b : Allowances} (c d : Content) (law : Lawful a c) (law' : Lawful b d) (capacity capacity' : ℕ) {m n : ℕ} (accepted : write capacity c ≡ written m) (accepted' : write capacity' d ≡ written n) where
  beginning : (tail : List ℕ) → encode_book d ≡ encode_book c ++ tail → (tail ≡ []) × SameLists c d
  unfolding fitting
  beginning tail e =
      let p = write-accepts capacity c accepted in
      let q = write-accepts capacity' d accepted' in
      let one = reads-fitting c law p.clear p.size tail in
      let two = reads-fitting d law' q.clear q.size [] in
      let bytes : encode_book c ++ tail ≡ encode_book d ++ [] = sym (append-nil (encode_book d) ∙ e) in
      let same = sym one ∙ ap (λ (l : List ℕ). block by_table 0 l (fresh largest) no_increment) bytes ∙ two in
      let lists : fitting c ≡ fitting d = cc in
      (cc, record { guids = ap (λ (x : Content). x.guids) lists; groups = ap (λ (x : Content). x.groups) lists })

  pub determined : OneBlock c d
  unfolding encode_book encode_tables
  determined = record {
    same = (λ e. (beginning [] (sym e ∙ sym (append-nil (encode_book c)))).1, λ s. rw (s.guids, s.groups));
    no_beginning = λ tail e. (beginning tail e).0;
  }
