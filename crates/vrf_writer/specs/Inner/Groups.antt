-- Contracts of the functions that write groups and slots (`src/groups.rt`).
use Rattle.std.specs.Prelude.{◌≡◌, ℕ, ◌<◌, List, ◌∷◌, ◌++◌}
use Rattle.std.proofs.Math.Option.{Option, some}
use Rattle.vrf_bitio.specs.Number.{encode_word32}
use Rattle.vrf_text.specs.Text.{encode_text}
use Rattle.vrf_model.specs.Book.{Group}
use Rattle.vrf_store.specs.Store.{Store, group_by}

abbrev pub group_at : Store → ℕ → Group
group_at s g = group_by s s.header.fields g

-- ---- slots

-- the bytes of a field name: kind 0, the text, number 0
unfoldable pub name_code : List ℕ → List ℕ
name_code t = 0 ∷ (encode_text t ++ encode_word32 0)

-- a row that was found is below n
abbrev pub RowBelow : ℕ → Option ℕ → Type 0
RowBelow n o = (e : ℕ) → o ≡ some e → e < n
