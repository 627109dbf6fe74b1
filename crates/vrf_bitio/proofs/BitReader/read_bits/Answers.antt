-- `vrf_bitio::BitReader::read_bits` satisfies its contract: its tests are those of `bits`.
use Rattle.std.proofs.Common.{arith, refl}
use borrow.Author.Tests.{lt-ltb}
use Rattle.vrf_bitio.specs.Window.{bits}
use Rattle.vrf_bitio.proofs.Readers.{bits-taken}
use Rattle.vrf_bitio.proofs.BitReader.read_bits.Goals as goal

pub returns-then-width-gt64 : goal.returns-then-width-gt64
unfolding bits
returns-then-width-gt64 c = (rw (lt-ltb 64 _ c.if-width-gt64.true), refl)

pub returns : goal.returns
returns c = bits-taken c.args.self.now c.take_bits.new.self _ (omega arith) c.take_bits.result c.take_bits.ensures
