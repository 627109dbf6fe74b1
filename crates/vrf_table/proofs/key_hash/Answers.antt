-- `vrf_table::key_hash` satisfies its contract.
use Rattle.std.proofs.Common.{◌≡◌, ◌/◌, ◌%◌, ◌^◌, arith}
use Rattle.vrf_table.specs.Table.{key_hash}
use Rattle.vrf_table.proofs.key_hash.Goals as goal

pub returns : goal.returns
unfolding key_hash
returns c =
    let all : c.args.k / 2 ^ 32 % 2 ^ 32 ≡ c.args.k / 2 ^ 32 = omega arith in
    (rw all, omega arith)
