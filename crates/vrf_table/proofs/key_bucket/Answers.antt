-- `vrf_table::key_bucket` satisfies its contract.
use Rattle.std.proofs.Common.{◌≡◌, ◌-◌, true, false, ltb, arith, le-ltb, lt-ltb}
use Rattle.vrf_table.specs.Table.{key_bucket}
use Rattle.vrf_table.proofs.Laws.Table.{bucket-lt}
use Rattle.vrf_table.proofs.key_bucket.Goals as goal

pub returns-then-b-lt4096 : goal.returns-then-b-lt4096
unfolding key_bucket
returns-then-b-lt4096 c =
    let x = c.args in
    let few : ltb x.b 4096 ≡ true = lt-ltb _ _ c.if-b-lt4096.true in
    rw (few, ← c.key_hash.ensures.0) c.bucket_of.ensures

pub overflow_add-result : goal.overflow_add-result
overflow_add-result c =
    omega (arith, c.bucket_of-2.ensures, bucket-lt (c.args.b - 63) c.key_hash-2.result (omega arith) c.key_hash-2.ensures.1)

pub returns : goal.returns
unfolding key_bucket
returns c =
    let x = c.args in
    let many : ltb x.b 4096 ≡ false = le-ltb _ _ c.if-b-lt4096.false in
    rw (many, ← c.key_hash-2.ensures.0, ← c.bucket_of-2.ensures)
