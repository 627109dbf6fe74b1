-- `vrf_store::literals::put_literal` satisfies its contract: the law `literal-put` gives the memory after its write.
use Rattle.vrf_store.proofs.Laws.Literals.{literal-put}
use Rattle.vrf_store.proofs.literals.put_literal.Goals as goal

pub returns : goal.returns
returns c = literal-put c.requires.0 c.args.i c.args.position c.requires.1 c.literals_at-at.ensures c.put32.ensures
