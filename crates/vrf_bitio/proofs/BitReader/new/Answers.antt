-- `vrf_bitio::BitReader::new` satisfies its contract: a slice that is too long is refused whatever its bit count is.
use Rattle.vrf_bitio.proofs.Readers.{window-large}
use Rattle.vrf_bitio.proofs.BitReader.new.Goals as goal

pub returns-then-n-gt-WINDOW_BYTES : goal.returns-then-n-gt-WINDOW_BYTES
returns-then-n-gt-WINDOW_BYTES c =
    let large = c.if-n-gt-WINDOW_BYTES.true in
    rw (window-large c.args.data.now 0 _ large) (rw (window-large c.args.data.now 0 0 large) at c.window.ensures)
