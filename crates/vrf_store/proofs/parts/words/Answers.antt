-- `vrf_store::parts::words` satisfies its contract: it answers the 4 n bytes from byte 4 i on.
use Rattle.std.proofs.Common.{◌≡◌, ℕ, ◌+◌, ◌-◌, ◌*◌, take, drop, ap, arith}
use Rattle.vrf_words.specs.Words.{part}
use Rattle.vrf_store.specs.Store.{words}
use Rattle.vrf_store.proofs.parts.words.Goals as goal

pub returns : goal.returns
unfolding words part
returns c =
    ap (λ (k : ℕ). take k (drop (4 * c.args.i) c.args.m.now)) (let e : 4 * c.args.i + 4 * c.args.n - 4 * c.args.i ≡ 4 * c.args.n = omega arith in e)
