-- A slot of a group, and the content with that slot set. Used by the laws of `set_field_on_group`.
use Rattle.std.specs.Prelude.{◌≡◌, List, [], ◌∷◌, ℕ, zero, suc, ◌+◌, ◌<◌, length}
use Rattle.std.proofs.Math.Path.{ap}
use Rattle.std.proofs.Common.{suc-le-suc, zero-le, not-suc-le-zero, arith, set-set}
use Rattle.std.proofs.Math.ListN.{get_or}
use Rattle.vrf_model.specs.Book.{Slot, empty, Group, Content, slot_fields, slot_text, group_fields, group_text}
use Rattle.vrf_model.specs.Lookup.{place_or, slot_at}
use Rattle.vrf_model.specs.Setting.{with_slot}
use Rattle.vrf_model.proofs.Laws.Places.{place_or-at}
use Rattle.vrf_store.specs.Inner.Fields.{with_field}
use Rattle.vrf_cache.specs.Inner.Groups.{no_group}
use Rattle.vrf_cache.specs.Inner.Slots.{slots_at}
use Rattle.vrf_cache.proofs.Laws.Passed.{HeldCounts, sum-set, counts-group-set}
use Rattle.vrf_cache.proofs.Laws.Groups.Held.{altered, changed-twice}

-- a place that has a slot is the place of a group
pub slot-place : (groups : List Group) (place : ℕ) {slot : ℕ} → slot < slots_at groups place → place < length groups
unfolding place_or
slot-place [] place h = absurd (not-suc-le-zero h)
slot-place (g ∷ groups) zero h = suc-le-suc zero-le
slot-place (g ∷ groups) (suc place) h = suc-le-suc (slot-place groups place h)

module _ (c : Content) (place : ℕ) {slot : ℕ} (h : slot < slots_at c.groups place) where
  abbrev group : Group
  group = get_or c.groups place no_group

  there : place < length c.groups
  there = slot-place c.groups place h

  slot-there : slot < length group.slots
  slot-there = omega (arith, h, place_or-at (λ (g : Group). length g.slots) 0 c.groups place no_group there)

  its-slot : slot_at c.groups place slot ≡ get_or group.slots slot empty
  unfolding slot_at
  its-slot = place_or-at (λ (g : Group). get_or g.slots slot empty) empty c.groups place no_group there

  -- the counts change by the fields and the text of this slot
  pub slot_counts : {guids groups fields text : ℕ} → HeldCounts c guids groups fields text → (w : Slot) (f t : ℕ) → f + slot_fields (slot_at c.groups place slot) ≡ fields + slot_fields w → t + slot_text (slot_at c.groups place slot) ≡ text + slot_text w → HeldCounts (with_field c place slot w) guids groups f t
  unfolding group_fields group_text with_slot
  slot_counts k w f t ef et =
      rw (altered c place there (with_slot slot w))
      (counts-group-set c k place (with_slot slot w group) no_group there f t
      (omega (arith, ef, ap slot_fields its-slot, sum-set slot_fields group.slots slot w empty slot-there))
      (omega (arith, et, ap slot_text its-slot, sum-set slot_text group.slots slot w empty slot-there)))

  -- a slot set twice holds what was set last
  pub set-again : (v w : Slot) → with_field (with_field c place slot v) place slot w ≡ with_field c place slot w
  unfolding with_slot
  set-again v w = changed-twice c place there (with_slot slot v) (with_slot slot w) (with_slot slot w) (rw (set-set group.slots slot v w))
