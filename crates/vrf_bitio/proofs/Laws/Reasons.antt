-- Reasons with the same number are equal.
use Rattle.std.specs.Prelude.{◌≡◌, refl, cond, ℕ, eqb}
use Rattle.std.proofs.Common.{sym, ap, ◌∙◌}
use Rattle.vrf_bitio.specs.Reasons.{number}
use Rattle.vrf_bitio.specs.declared.Reason.{Reason}
use Rattle.vrf_bitio.specs.declared.Reason.TheVariants.{AllowanceAboveTop, CorruptBook, MemoryTooShort, TooFew, PackedRunsOn, PackedTooLarge, TextLength, BadText, Short, Width, UnknownPathIndex, BadExportedFlag, TooManySlots, CrossedIdentity, NegativePayloadSize, TrailingPayload, TooDeep, ReservedWordSet, CountOverflow, BadPathKind, PathIndexOutOfBounds, GroupCollision, HandleNotSlot, FrameOffsetMismatch, NotUtf8, TextTooLong, AllowancePassed, WindowTooLarge, PathIsEarlierKey, BlockTooLong}

-- the reason of a number of document 01's table
abbrev by_number : ℕ → Reason
by_number n =
    cond (eqb n 1) AllowanceAboveTop (
    cond (eqb n 2) CorruptBook (
    cond (eqb n 3) MemoryTooShort (
    cond (eqb n 10) TooFew (
    cond (eqb n 11) PackedRunsOn (
    cond (eqb n 12) PackedTooLarge (
    cond (eqb n 13) TextLength (
    cond (eqb n 14) BadText (
    cond (eqb n 15) Short (
    cond (eqb n 16) Width (
    cond (eqb n 20) UnknownPathIndex (
    cond (eqb n 21) BadExportedFlag (
    cond (eqb n 22) TooManySlots (
    cond (eqb n 23) CrossedIdentity (
    cond (eqb n 24) NegativePayloadSize (
    cond (eqb n 25) TrailingPayload (
    cond (eqb n 26) TooDeep (
    cond (eqb n 30) ReservedWordSet (
    cond (eqb n 31) CountOverflow (
    cond (eqb n 32) BadPathKind (
    cond (eqb n 33) PathIndexOutOfBounds (
    cond (eqb n 34) GroupCollision (
    cond (eqb n 35) HandleNotSlot (
    cond (eqb n 36) FrameOffsetMismatch (
    cond (eqb n 40) NotUtf8 (
    cond (eqb n 41) TextTooLong (
    cond (eqb n 42) AllowancePassed (
    cond (eqb n 43) WindowTooLarge (
    cond (eqb n 44) PathIsEarlierKey (
    BlockTooLong)))))))))))))))))))))))))))))

back : (r : Reason) → by_number (number r) ≡ r
back AllowanceAboveTop = refl
back CorruptBook = refl
back MemoryTooShort = refl
back TooFew = refl
back PackedRunsOn = refl
back PackedTooLarge = refl
back TextLength = refl
back BadText = refl
back Short = refl
back Width = refl
back UnknownPathIndex = refl
back BadExportedFlag = refl
back TooManySlots = refl
back CrossedIdentity = refl
back NegativePayloadSize = refl
back TrailingPayload = refl
back TooDeep = refl
back ReservedWordSet = refl
back CountOverflow = refl
back BadPathKind = refl
back PathIndexOutOfBounds = refl
back GroupCollision = refl
back HandleNotSlot = refl
back FrameOffsetMismatch = refl
back NotUtf8 = refl
back TextTooLong = refl
back AllowancePassed = refl
back WindowTooLarge = refl
back PathIsEarlierKey = refl
back BlockTooLong = refl

pub same_number : (r q : Reason) → number r ≡ number q → r ≡ q
same_number r q e = sym (back r) ∙ ap by_number e ∙ back q
