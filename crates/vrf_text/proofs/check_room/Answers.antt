-- `vrf_text::check_room` satisfies its contract.
use Rattle.vrf_text.proofs.Texts.{room-long, room-short}
use Rattle.vrf_text.proofs.check_room.Goals as goal

pub returns-then-n-gt-TEXT_BYTES : goal.returns-then-n-gt-TEXT_BYTES
returns-then-n-gt-TEXT_BYTES c = λ start t q p l. room-long _ _ start t q p l c.if-n-gt-TEXT_BYTES.true

pub returns-then-space-n : goal.returns-then-space-n
returns-then-space-n c = λ start t q p l. room-short _ _ start t q p l c.if-n-gt-TEXT_BYTES.false c.if-space-n.true
