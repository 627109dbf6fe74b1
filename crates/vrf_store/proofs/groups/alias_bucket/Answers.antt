-- `vrf_store::groups::alias_bucket` satisfies its contract: the path has this alias or not.
use Rattle.std.specs.Prelude.{None}
use Rattle.std.proofs.Common.{◌≡◌, ap, arith}
use mathlib.Core.Option.{some}
use Rattle.vrf_store.specs.Inner.Groups.{bucket_of}
use Rattle.vrf_store.proofs.groups.alias_bucket.Goals as goal

pub returns : goal.returns
unfolding bucket_of
returns c = rw c.in_ok-key.was (ap some c.spelled_bucket.ensures)

pub returns-in_err-key : goal.returns-in_err-key
unfolding bucket_of
returns-in_err-key c =
    let gone : c.from_residual.result ≡ None = grind arith in
    rw (gone, c.in_err-key.was)
