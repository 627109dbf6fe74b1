-- The lengths of the parts of a block, as `src/size.rt` adds them up. The first byte of each slot is counted with its group, and the other
-- bytes of a filled slot with its field. So no empty slot is visited.
use Rattle.std.specs.Prelude.{ℕ, ◌+◌, ◌%◌, length}
use Rattle.vrf_bitio.specs.Number.{encode_packed}
use Rattle.vrf_text.specs.Text.{encode_text}
use Rattle.vrf_model.specs.Book.{Slot, empty, filled, Group}
use Rattle.vrf_table.specs.Table.{key}
use Rattle.vrf_store.specs.Store.{Store, field_at}

-- the bytes of a slot after its first byte: its handle, its name, and 9 bytes for checksum, kind and number
unfoldable pub beyond : ℕ → Slot → ℕ
beyond slot empty = 0
beyond slot (filled checksum name) = length (encode_packed slot) + 9 + length (encode_text name)

-- the bytes of a group, with one byte for each slot
unfoldable pub group_bytes : Group → ℕ
group_bytes g = length (encode_text g.path) + length (encode_packed g.index) + length (encode_packed (length g.slots)) + length g.slots

-- the bytes that the field in row e adds to its slot's first byte
abbrev pub field_bytes : Store → ℕ → ℕ
field_bytes s e = beyond (key s.field_rows e % 65536) (field_at s e)
