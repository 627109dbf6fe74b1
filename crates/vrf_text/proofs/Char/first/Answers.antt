-- `vrf_text::Char::first` satisfies its contract: each answer follows from the tests before it.
use Rattle.vrf_text.proofs.Chars16.{single_of, none_of, pair_of}
use Rattle.vrf_text.proofs.Char.first.Goals as goal

pub returns-then-a-lt55296 : goal.returns-then-a-lt55296
returns-then-a-lt55296 c = single_of _ c.then-a-lt55296.either

pub returns-then-a-gt56319 : goal.returns-then-a-gt56319
returns-then-a-gt56319 c = none_of _ c.if-a-lt55296.false c.if-a-gt57343.false c.then-a-gt56319.either

pub returns : goal.returns
returns c = pair_of _ c.if-a-lt55296.false c.if-a-gt56319.false c.if-b-lt56320.false c.if-b-gt57343.false
