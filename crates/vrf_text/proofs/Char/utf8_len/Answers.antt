-- `vrf_text::Char::utf8_len` satisfies its contract.
use Rattle.std.proofs.Common.{arith}
use Rattle.vrf_text.proofs.CharWrites.{length-1, length-2, length-3, length-4}
use Rattle.vrf_text.proofs.Char.utf8_len.Goals as goal

pub returns-then-u-lt128 : goal.returns-then-u-lt128
returns-then-u-lt128 c = (length-1 _ c.if-u-lt128.true, omega arith)

pub returns-then-u-lt2048 : goal.returns-then-u-lt2048
returns-then-u-lt2048 c = (length-2 _ c.if-u-lt128.false c.if-u-lt2048.true, omega arith)

pub returns-then-u-lt65536 : goal.returns-then-u-lt65536
returns-then-u-lt65536 c = (length-3 _ c.if-u-lt2048.false c.if-u-lt65536.true, omega arith)

pub returns-else-u-lt65536 : goal.returns-else-u-lt65536
returns-else-u-lt65536 c = (length-4 _ c.if-u-lt65536.false, omega arith)
