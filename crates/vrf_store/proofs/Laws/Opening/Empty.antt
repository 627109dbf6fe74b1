-- A store that holds nothing is valid, and its book is fresh. Opening and clearing use this.
use Rattle.std.specs.Prelude.{◌≡◌, ℕ, ◌≤◌, List, length}
use Rattle.std.proofs.Math.Path.{refl}
use Rattle.std.proofs.Common.{sym, ap, subst, ◌∙◌, zero-le, not-suc-le-zero}
use Rattle.vrf_model.specs.Book.{Allowances, fresh}
use Rattle.vrf_model.specs.Lawful.{Allowed}
use Rattle.vrf_table.specs.Chain.{walk, last_below}
use Rattle.vrf_table.specs.Index.{claim_from, claim_walk}
use Rattle.vrf_table.specs.Inner.Index.{claim_below}
use Rattle.vrf_store.specs.UpTo.{up_to, sum_below}
use Rattle.vrf_store.specs.Layout
use Rattle.vrf_store.specs.Store.{Header, header_of, store_by, store_of, content_of}
use Rattle.vrf_store.specs.Check.{text_sum}
use Rattle.vrf_store.specs.Inner.Valid.{ValidTable, Valid}
use Rattle.vrf_store.specs.Inner.WellFormed.{WellFormed}
use Rattle.vrf_store.specs.Inner.Opening.{empty_header}
use Rattle.vrf_store.proofs.Laws.Check.Valid.{need-shaped}

empty-table : (used : ℕ) (x r heads : List ℕ) (b : ℕ) → ValidTable used x r heads b 0
unfolding walk last_below
empty-table used x r heads b = record { texts = λ e h. absurd (not-suc-le-zero h); distinct = λ i j h. absurd (not-suc-le-zero h); latest = λ y. refl }

module _ (a : Allowances) (half : ℕ) (m : List ℕ) (enough : Layout.need a ≤ length m) where
  empty-valid : Allowed a → half ≤ 1 → Valid (store_by (empty_header a half) m)
  unfolding walk last_below claim_from claim_below claim_walk text_sum sum_below
  empty-valid tops few = record {
    shaped = need-shaped (empty_header a half) m enough;
    header = record { tops = tops; guids = zero-le; groups = zero-le; fields = zero-le; held = zero-le; used = zero-le; half = few };
    guid_table = empty-table _ _ _ _ _;
    guids = λ e h. absurd (not-suc-le-zero h);
    group_table = empty-table _ _ _ _ _;
    groups = λ e h. absurd (not-suc-le-zero h);
    paths = λ y. refl;
    leaves = λ y. refl;
    field_table = empty-table _ _ _ _ _;
    fields = λ e h. absurd (not-suc-le-zero h);
    total = refl;
  }

  empty-content : content_of (store_by (empty_header a half) m) ≡ fresh a
  unfolding content_of up_to fresh
  empty-content = refl

  module _ (h : header_of m ≡ empty_header a half) where
    pub empty-good : Allowed a → half ≤ 1 → WellFormed m
    empty-good tops few = record {
      enough = subst (λ (x : Header). Layout.need x.allowed ≤ length m) (sym h) enough;
      valid = subst (λ (x : Header). Valid (store_by x m)) (sym h) (empty-valid tops few);
    }

    pub empty-held : content_of (store_of m) ≡ fresh a
    empty-held = ap (λ (x : Header). content_of (store_by x m)) h ∙ empty-content
