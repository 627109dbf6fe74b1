-- `vrf_store::texts::make_space` satisfies its contract: if there is not enough space, there is after the texts are moved.
use Rattle.vrf_store.proofs.Laws.Texts.Space.{space-made}
use Rattle.vrf_store.proofs.texts.make_space.Goals as goal

pub returns : goal.returns
returns c = space-made c.compact.ensures c.requires.1
