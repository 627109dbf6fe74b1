-- `vrf_store::open::above_top` satisfies its contract: it makes the tests of the definition, in the same order.
use Rattle.std.proofs.Common.{le-ltb, lt-ltb}
use Rattle.vrf_store.specs.Opening.{above_top}
use Rattle.vrf_store.proofs.open.above_top.Goals as goal

pub returns-then-allowed-gt1000000 : goal.returns-then-allowed-gt1000000
unfolding above_top
returns-then-allowed-gt1000000 c =
    rw (lt-ltb 1000000 c.args.allowed.guids c.if-allowed-gt1000000.true)

pub returns-then-allowed-gt100000 : goal.returns-then-allowed-gt100000
unfolding above_top
returns-then-allowed-gt100000 c =
    rw (le-ltb 1000000 c.args.allowed.guids c.if-allowed-gt1000000.false, lt-ltb 100000 c.args.allowed.groups c.if-allowed-gt100000.true)

pub returns-then-allowed-gt1000000-2 : goal.returns-then-allowed-gt1000000-2
unfolding above_top
returns-then-allowed-gt1000000-2 c =
    rw (le-ltb 1000000 c.args.allowed.guids c.if-allowed-gt1000000.false, le-ltb 100000 c.args.allowed.groups c.if-allowed-gt100000.false, lt-ltb 1000000 c.args.allowed.fields c.if-allowed-gt1000000-2.true)

pub returns-then-allowed-gt67108864 : goal.returns-then-allowed-gt67108864
unfolding above_top
returns-then-allowed-gt67108864 c =
    rw (le-ltb 1000000 c.args.allowed.guids c.if-allowed-gt1000000.false, le-ltb 100000 c.args.allowed.groups c.if-allowed-gt100000.false, le-ltb 1000000 c.args.allowed.fields c.if-allowed-gt1000000-2.false, lt-ltb 67108864 c.args.allowed.text c.if-allowed-gt67108864.true)

pub returns-then-allowed-gt1000000-3 : goal.returns-then-allowed-gt1000000-3
unfolding above_top
returns-then-allowed-gt1000000-3 c =
    rw (le-ltb 1000000 c.args.allowed.guids c.if-allowed-gt1000000.false, le-ltb 100000 c.args.allowed.groups c.if-allowed-gt100000.false, le-ltb 1000000 c.args.allowed.fields c.if-allowed-gt1000000-2.false, le-ltb 67108864 c.args.allowed.text c.if-allowed-gt67108864.false, lt-ltb 1000000 c.args.allowed.literals c.if-allowed-gt1000000-3.true)

pub returns : goal.returns
unfolding above_top
returns c =
    rw (le-ltb 1000000 c.args.allowed.guids c.if-allowed-gt1000000.false, le-ltb 100000 c.args.allowed.groups c.if-allowed-gt100000.false, le-ltb 1000000 c.args.allowed.fields c.if-allowed-gt1000000-2.false, le-ltb 67108864 c.args.allowed.text c.if-allowed-gt67108864.false, le-ltb 1000000 c.args.allowed.literals c.if-allowed-gt1000000-3.false)
