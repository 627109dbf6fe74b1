-- Every element of a written block is a byte.
use Rattle.std.specs.Prelude.{List, [], ◌∷◌, ◌≡◌, ℕ, zero, suc, ◌+◌, ◌*◌, ◌/◌, ◌%◌, ◌^◌, ◌<◌, ltb, length}
use Rattle.std.proofs.Common.{mod-lt, arith, ltb-true}
use Rattle.std.proofs.Math.Nat.{pow-succ'}
use Rattle.vrf_bitio.specs.Bits.{Bytes}
use Rattle.vrf_bitio.specs.Number.{low_bytes, encode_word32, encode_chunks, encode_packed}
use Rattle.vrf_text.specs.Text.{IsText, encode_text}
use Rattle.vrf_bitio.proofs.Laws.Cases.{by_cond}
use Rattle.vrf_text.proofs.Laws.Utf8.{utf8-byte}
use Rattle.vrf_model.specs.Book.{Guid, Slot, empty, filled, Group, Allowances, Content}
use Rattle.vrf_model.specs.Writer.{encode_guid, encode_slot, encode_slots, encode_group, encode_all, encode_tables, encode_book}
use Rattle.vrf_model.specs.Lawful.{Each, nil, cons, Is32, LawfulGuid, LawfulSlot, LawfulGroup, Lawful}
use Rattle.vrf_model.proofs.Laws.Each.{each_append, each_or, or-each}

abbrev AreBytes : List ℕ → Type 0
AreBytes l = Each (λ (b : ℕ). b < 256) l

-- ---- numbers and texts

low-bytes : (k n : ℕ) → AreBytes (low_bytes k n)
unfolding low_bytes
low-bytes zero n = nil
low-bytes (suc k) n = cons (mod-lt n (omega arith)) (low-bytes k (n / 256))

word_bytes : (n : ℕ) → AreBytes (encode_word32 n)
unfolding encode_word32
word_bytes n = low-bytes 4 n

chunk_bytes : (more n : ℕ) → n < 16 * 128 ^ more → AreBytes (encode_chunks more n)
unfolding encode_chunks
chunk_bytes zero n h = cons {a = 2 * n} (omega arith) nil
chunk_bytes (suc more) n h =
    let e : 16 * 128 ^ suc more ≡ 128 * (16 * 128 ^ more) = rw (pow-succ' 128 more) (omega arith) in
    let h' : n < 128 * (16 * 128 ^ more) = rw e at h in
    by_cond AreBytes (ltb n 128) (λ few. cons {a = 2 * n} (omega (arith, ltb-true n 128 few)) nil)
    λ _. cons {a = 2 * (n % 128) + 1} (omega arith) (chunk_bytes more (n / 128) (omega arith))

packed-bytes : (n : ℕ) → Is32 n → AreBytes (encode_packed n)
unfolding encode_packed
packed-bytes n h = chunk_bytes 4 n (omega arith)

text-bytes : (t : List ℕ) → IsText t → AreBytes (encode_text t)
unfolding encode_text
text-bytes [] h = word_bytes 0
text-bytes (b ∷ t) h = each_append (word_bytes (length (b ∷ t) + 1)) (each_append (or-each (b ∷ t) 0 λ i. omega (arith, utf8-byte (b ∷ t) h.valid i)) (cons {a = 0} (omega arith) nil))

-- ---- GUIDs and groups

guid-bytes : (r : Guid) → LawfulGuid r → AreBytes (encode_guid r)
unfolding encode_guid
guid-bytes r h =
    each_append (packed-bytes r.guid h.guid) (each_append (packed-bytes r.outer h.outer)
    (cons {a = 1} (omega arith) (each_append (text-bytes r.path h.path) (cons {a = 0} (omega arith) nil))))

slot-bytes : (place : ℕ) (s : Slot) → Is32 place → LawfulSlot s → AreBytes (encode_slot place s)
unfolding encode_slot
slot-bytes place empty hp h = cons {a = 0} (omega arith) nil
slot-bytes place (filled checksum name) hp h =
    cons {a = 1} (omega arith) (each_append (packed-bytes place hp) (each_append (word_bytes checksum) (cons {a = 0} (omega arith) (each_append (text-bytes name h.1) (word_bytes 0)))))

slots-bytes : (place : ℕ) (l : List Slot) → Is32 (place + length l) → Each LawfulSlot l → AreBytes (encode_slots place l)
unfolding encode_slots
slots-bytes place [] hp h = nil
slots-bytes place (s ∷ l) hp (cons g gs) = each_append (slot-bytes place s (omega arith) g) (slots-bytes (place + 1) l (omega arith) gs)

group-bytes : (g : Group) → LawfulGroup g → AreBytes (encode_group g)
unfolding encode_group
group-bytes g h =
    each_append (text-bytes g.path h.path) (each_append (packed-bytes g.index h.index)
    (each_append (packed-bytes (length g.slots) (omega (arith, h.few))) (slots-bytes 0 g.slots (omega (arith, h.few)) h.slots)))

all-bytes : {A : Type 0} {P : A → Type 0} (f : A → List ℕ) → ((a : A) → P a → AreBytes (f a)) → {l : List A} → Each P l → AreBytes (encode_all f l)
unfolding encode_all
all-bytes f h nil = nil
all-bytes f h (cons {a = a} x g) = each_append (h a x) (all-bytes f h g)

pub block-bytes : {a : Allowances} (c : Content) → Lawful a c → Bytes (encode_book c)
unfolding encode_book encode_tables
block-bytes c law =
    each_or (each_append (word_bytes _) (each_append (word_bytes 0) (each_append (word_bytes 0) (each_append (word_bytes 0)
    (each_append (word_bytes (length c.guids)) (each_append (all-bytes encode_guid guid-bytes law.guids)
    (each_append (word_bytes (length c.groups)) (all-bytes encode_group group-bytes law.groups)))))))) (omega arith)
