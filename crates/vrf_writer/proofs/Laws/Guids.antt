-- The bytes of GUID records, part by part. The proofs of `put_guid` and `put_guids` use these laws.
use Rattle.std.specs.Prelude.{◌≡◌, ℕ, List, [], ◌∷◌, ◌++◌, refl}
use Rattle.vrf_bitio.specs.Number.{encode_packed}
use Rattle.vrf_text.specs.Text.{encode_text}
use Rattle.vrf_model.specs.Book.{Guid}
use Rattle.vrf_model.specs.Writer.{encode_guid, encode_all}
use Rattle.vrf_store.specs.UpTo.{up_to}
use Rattle.vrf_store.specs.Store.{Store, guid_at, content_of}
use Rattle.vrf_writer.specs.Inner.Rows.{guid_in}

-- what follows the GUID, and what follows the kind byte
abbrev pub outer_on : Guid → List ℕ
outer_on r = encode_packed r.outer ++ (1 ∷ (encode_text r.path ++ (0 ∷ [])))

abbrev pub path_on : Guid → List ℕ
path_on r = encode_text r.path ++ (0 ∷ [])

pub guid-code : (r : Guid) → encode_guid r ≡ encode_packed r.guid ++ outer_on r
unfolding encode_guid
guid-code r = refl

-- all records
pub guids-code : (s : Store) {r x : List ℕ} {n : ℕ} → r ≡ s.guid_rows → x ≡ s.texts → n ≡ s.header.guids → encode_all encode_guid (up_to (guid_in r x) n) ≡ encode_all encode_guid (content_of s).guids
unfolding content_of guid_at
guids-code s er ex en = rw (er, ex, en)
