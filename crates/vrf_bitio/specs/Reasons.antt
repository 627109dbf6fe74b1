-- Document 01's table of refusals: the number of each reason, and how a refusal is printed.
use Rattle.std.specs.Prelude.{ℕ, List, ◌++◌, codes, decimal}
use Rattle.vrf_bitio.specs.declared.Refusal.{Refusal}
use Rattle.vrf_bitio.specs.declared.Reason.{Reason}
use Rattle.vrf_bitio.specs.declared.Reason.TheVariants.{AllowanceAboveTop, CorruptBook, MemoryTooShort, TooFew, PackedRunsOn, PackedTooLarge, TextLength, BadText, Short, Width, UnknownPathIndex, BadExportedFlag, TooManySlots, CrossedIdentity, NegativePayloadSize, TrailingPayload, TooDeep, ReservedWordSet, CountOverflow, BadPathKind, PathIndexOutOfBounds, GroupCollision, HandleNotSlot, FrameOffsetMismatch, NotUtf8, TextTooLong, AllowancePassed, WindowTooLarge, PathIsEarlierKey, BlockTooLong}

abbrev pub number : Reason → ℕ
number AllowanceAboveTop = 1
number CorruptBook = 2
number MemoryTooShort = 3
number TooFew = 10
number PackedRunsOn = 11
number PackedTooLarge = 12
number TextLength = 13
number BadText = 14
number Short = 15
number Width = 16
number UnknownPathIndex = 20
number BadExportedFlag = 21
number TooManySlots = 22
number CrossedIdentity = 23
number NegativePayloadSize = 24
number TrailingPayload = 25
number TooDeep = 26
number ReservedWordSet = 30
number CountOverflow = 31
number BadPathKind = 32
number PathIndexOutOfBounds = 33
number GroupCollision = 34
number HandleNotSlot = 35
number FrameOffsetMismatch = 36
number NotUtf8 = 40
number TextTooLong = 41
number AllowancePassed = 42
number WindowTooLarge = 43
number PathIsEarlierKey = 44
number BlockTooLong = 45

-- the text "refused NUMBER A B"
abbrev pub refusal_text : Refusal → List ℕ
refusal_text r = codes "refused " ++ decimal (number r.reason) ++ codes " " ++ decimal r.a ++ codes " " ++ decimal r.b
