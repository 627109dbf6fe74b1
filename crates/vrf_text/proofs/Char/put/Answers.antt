-- `vrf_text::Char::put` satisfies its contract: the stores write the bytes of the character.
use Rattle.std.proofs.Common.{arith, length-set}
use Rattle.vrf_text.proofs.CharWrites.{length-1, length-2, length-3, length-4, put_1, put_2, put_3, put_4}
use Rattle.vrf_text.proofs.Char.put.Goals as goal

pub bounds-out-at : goal.bounds-out-at
bounds-out-at c = omega (arith, length-1 _ c.if-u-lt128.true)

pub returns-then-u-lt128 : goal.returns-then-u-lt128
returns-then-u-lt128 c = (omega (arith, length-1 _ c.if-u-lt128.true), put_1 _ _ _ c.requires c.if-u-lt128.true)

pub bounds-out-at-then-u-lt2048 : goal.bounds-out-at-then-u-lt2048
bounds-out-at-then-u-lt2048 c = omega (arith, length-2 _ c.if-u-lt128.false c.if-u-lt2048.true)

pub bounds-out-at-then-u-lt2048-2 : goal.bounds-out-at-then-u-lt2048-2
bounds-out-at-then-u-lt2048-2 c = simp length-set (omega (arith, length-2 _ c.if-u-lt128.false c.if-u-lt2048.true))

pub returns-then-u-lt2048 : goal.returns-then-u-lt2048
returns-then-u-lt2048 c =
    (omega (arith, length-2 _ c.if-u-lt128.false c.if-u-lt2048.true), put_2 _ _ _ c.requires c.if-u-lt128.false c.if-u-lt2048.true)

pub bounds-out-at-then-u-lt65536 : goal.bounds-out-at-then-u-lt65536
bounds-out-at-then-u-lt65536 c = omega (arith, length-3 _ c.if-u-lt2048.false c.if-u-lt65536.true)

pub bounds-out-at-then-u-lt65536-2 : goal.bounds-out-at-then-u-lt65536-2
bounds-out-at-then-u-lt65536-2 c = simp length-set (omega (arith, length-3 _ c.if-u-lt2048.false c.if-u-lt65536.true))

pub bounds-out-at-then-u-lt65536-3 : goal.bounds-out-at-then-u-lt65536-3
bounds-out-at-then-u-lt65536-3 c = simp length-set (omega (arith, length-3 _ c.if-u-lt2048.false c.if-u-lt65536.true))

pub returns-then-u-lt65536 : goal.returns-then-u-lt65536
returns-then-u-lt65536 c =
    (omega (arith, length-3 _ c.if-u-lt2048.false c.if-u-lt65536.true), put_3 _ _ _ c.requires c.if-u-lt2048.false c.if-u-lt65536.true)

pub bounds-out-at-2 : goal.bounds-out-at-2
bounds-out-at-2 c = omega (arith, length-4 _ c.if-u-lt65536.false)

pub bounds-out-at-3 : goal.bounds-out-at-3
bounds-out-at-3 c = simp length-set (omega (arith, length-4 _ c.if-u-lt65536.false))

pub bounds-out-at-4 : goal.bounds-out-at-4
bounds-out-at-4 c = simp length-set (omega (arith, length-4 _ c.if-u-lt65536.false))

pub bounds-out-at-5 : goal.bounds-out-at-5
bounds-out-at-5 c = simp length-set (omega (arith, length-4 _ c.if-u-lt65536.false))

pub returns : goal.returns
returns c = (omega (arith, length-4 _ c.if-u-lt65536.false), put_4 _ _ _ c.requires c.if-u-lt65536.false)
