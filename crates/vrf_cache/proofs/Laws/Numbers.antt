-- The counts in the header of a well-formed memory are the counts of the content that it holds.
use Rattle.std.specs.Prelude.{◌≡◌, refl, List, ℕ, length}
use Rattle.std.proofs.Common.{sym, ap, ◌∙◌}
use Rattle.vrf_model.specs.Book.{Allowances, Content, held_fields, held_text}
use Rattle.vrf_store.specs.Store.{allowances_of, header_of, store_of, guid_at, group_by, content_of}
use Rattle.vrf_store.specs.Inner.WellFormed.{WellFormed}
use Rattle.vrf_store.specs.Inner.Stepped.{held}
use Rattle.vrf_store.proofs.Laws.Memory.UpTo.{length-up_to}
use Rattle.vrf_store.proofs.Laws.Check.Accepted.{held-fields, held-text}
use Rattle.vrf_cache.proofs.Laws.Passed.{HeldCounts}

pub counts : {m : List ℕ} → WellFormed m → HeldCounts (held m) (header_of m).guids (header_of m).groups (header_of m).fields (header_of m).held
unfolding content_of
counts {m} good = record {
  guids-are = length-up_to (guid_at (store_of m)) (header_of m).guids;
  groups-are = length-up_to (group_by (store_of m) (header_of m).fields) (header_of m).groups;
  fields-are = held-fields good.valid;
  text-is = held-text good.valid;
}

-- the allowances in the memory are those of the content
pub allowed : (m : List ℕ) → (held m).allowed ≡ allowances_of m
unfolding content_of
allowed m = refl

-- the allowances and counts in the header
pub record Numbers (m : List ℕ) (a : Allowances) (guids groups fields text : ℕ) : Type 0 where
  pub allowed-are : allowances_of m ≡ a
  pub guids-are : (header_of m).guids ≡ guids
  pub groups-are : (header_of m).groups ≡ groups
  pub fields-are : (header_of m).fields ≡ fields
  pub text-is : (header_of m).held ≡ text

-- the header of a memory that holds c
pub numbers : {m : List ℕ} {c : Content} {guids groups fields text : ℕ} → WellFormed m → held m ≡ c → HeldCounts c guids groups fields text → Numbers m c.allowed guids groups fields text
numbers {m} {c} good e k =
    let own = counts good in
    record {
      allowed-are = sym (allowed m) ∙ ap (λ (x : Content). x.allowed) e;
      guids-are = sym own.guids-are ∙ ap (λ (x : Content). length x.guids) e ∙ k.guids-are;
      groups-are = sym own.groups-are ∙ ap (λ (x : Content). length x.groups) e ∙ k.groups-are;
      fields-are = sym own.fields-are ∙ ap held_fields e ∙ k.fields-are;
      text-is = sym own.text-is ∙ ap held_text e ∙ k.text-is;
    }
