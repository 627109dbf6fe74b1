-- `vrf_bitio::BitReader::window` satisfies its contract: its tests are those of `window`.
use Rattle.std.proofs.Common.{arith, refl}
use Rattle.vrf_bitio.proofs.Readers.{window-large, window-short, window-opens}
use Rattle.vrf_bitio.proofs.BitReader.window.Goals as goal

pub returns-then-n-gt-WINDOW_BYTES : goal.returns-then-n-gt-WINDOW_BYTES
returns-then-n-gt-WINDOW_BYTES c = window-large _ _ _ c.if-n-gt-WINDOW_BYTES.true

pub returns-then-left-count : goal.returns-then-left-count
returns-then-left-count c = window-short _ _ _ (omega arith) _ (omega arith) c.if-left-count.true

pub returns : goal.returns
returns c = (refl, window-opens _ _ _ (omega arith) (omega arith) (omega arith))
