-- `vrf_schema::calls::open` satisfies its contract.
use Rattle.vrf_schema.proofs.Laws.Open.{open-contract}
use Rattle.vrf_schema.proofs.calls.open.Goals as goal

pub returns : goal.returns
returns c =
    let call = c.«open» in
    open-contract _ c.args.book.now call.new.m call.result call.ensures
