-- `vrf_store::groups::index_group` satisfies its contract: it puts five entries at the front of their chains, one after the other.
use Rattle.std.proofs.Common.{◌+◌, ◌*◌, arith}
use Rattle.vrf_store.specs.Store.{store_of}
use Rattle.vrf_store.proofs.Laws.Memory.Written.{unwritten}
use Rattle.vrf_store.proofs.Laws.Groups.Links.{key_below, path-below, leaf-below}
use Rattle.vrf_store.proofs.Laws.Groups.Memory.{after, pushable, group-written, group-joined}
use Rattle.vrf_store.proofs.groups.index_group.Goals as goal

pub push_key-requires : goal.push_key-requires
push_key-requires c =
    let x = c.args in
    pushable 1 (λ r. r + 1) x.g c.requires (unwritten x.m.now) (omega (arith, c.requires.low)) c.buckets_of-b.ensures.key (key_below (store_of x.m.now) x.g)

pub push_path-requires : goal.push_path-requires
push_path-requires c =
    let x = c.args in
    pushable 3 (λ r. 3 * r + 1) (3 * x.g) c.requires c.push_key.ensures (omega (arith, c.requires.low)) c.buckets_of-b.ensures.own (path-below (store_of x.m.now) x.g 0)

pub push_path-requires-2 : goal.push_path-requires-2
push_path-requires-2 c =
    let x = c.args in
    pushable 3 (λ r. 3 * r + 1) (3 * x.g + 1) c.requires (after c.push_key.ensures c.push_path.ensures) (omega (arith, c.requires.low)) c.buckets_of-b.ensures.default (path-below (store_of x.m.now) x.g 1)

pub push_path-requires-3 : goal.push_path-requires-3
push_path-requires-3 c =
    let x = c.args in
    pushable 3 (λ r. 3 * r + 1) (3 * x.g + 2) c.requires (after (after c.push_key.ensures c.push_path.ensures) c.push_path-2.ensures) (omega (arith, c.requires.low)) c.buckets_of-b.ensures.core (path-below (store_of x.m.now) x.g 2)

pub push_leaf-requires : goal.push_leaf-requires
push_leaf-requires c =
    let x = c.args in
    pushable 1 (λ r. 2 * r + 1) x.g c.requires (after (after (after c.push_key.ensures c.push_path.ensures) c.push_path-2.ensures) c.push_path-3.ensures) (omega (arith, c.requires.low)) c.buckets_of-b.ensures.leaf (leaf-below (store_of x.m.now) x.g)

pub returns : goal.returns
returns c =
    group-joined c.requires (λ k. omega (arith, c.slice_known-1.given k)) (group-written c.buckets_of-b.ensures c.push_key.ensures c.push_path.ensures c.push_path-2.ensures c.push_path-3.ensures c.push_leaf.ensures)
