-- `vrf_store::groups::buckets_of` satisfies its contract: each bucket is computed from the row.
use Rattle.std.proofs.Common.{◌≡◌, ℕ, ◌≤◌, List, length, ap, ap₂, ◌∙◌, arith}
use Rattle.vrf_table.specs.Table.{key, text}
use Rattle.vrf_table.specs.TextIndex.{key_numbered}
use Rattle.vrf_store.specs.Store.{store_of}
use Rattle.vrf_store.specs.Inner.Groups.{bucket_of}
use Rattle.vrf_store.proofs.Laws.Groups.Memory.{row_inside, path_inside, path-short}
use Rattle.vrf_store.proofs.groups.buckets_of.Goals as goal

pub row_text-path-requires : goal.row_text-path-requires
row_text-path-requires c = rw (c.group_rows-rows.ensures, c.texts.ensures) (row_inside c.requires, path_inside c.requires)

pub get64-requires : goal.get64-requires
get64-requires c = omega (arith, ap length c.group_rows-rows.ensures, row_inside c.requires)

pub text_bucket-requires : goal.text_bucket-requires
text_bucket-requires c =
    let short : length c.row_text-path.result.now ≤ 4096 = rw (c.row_text-path.ensures, c.group_rows-rows.ensures, c.texts.ensures) (path-short c.requires) in
    omega (arith, short)

pub alias_bucket-requires : goal.alias_bucket-requires
alias_bucket-requires c = rw (c.row_text-path.ensures, c.group_rows-rows.ensures, c.texts.ensures) (path-short c.requires)

pub alias_bucket-requires-2 : goal.alias_bucket-requires-2
alias_bucket-requires-2 c = rw (c.row_text-path.ensures, c.group_rows-rows.ensures, c.texts.ensures) (path-short c.requires)

pub returns : goal.returns
unfolding key key_numbered bucket_of
returns c =
    let s = store_of c.args.m.now in
    let path : c.row_text-path.result.now ≡ text s.group_rows s.texts c.args.g =
    c.row_text-path.ensures ∙ ap₂ (λ (r x : List ℕ). text r x c.args.g) c.group_rows-rows.ensures c.texts.ensures in
    let few = c.groups_allowed-r.ensures.0 in
    record {
      key = rw (c.key_bucket.ensures, c.get64.ensures, c.group_rows-rows.ensures, few);
      own = rw (c.text_bucket.ensures, path, few);
      default = rw (c.alias_bucket.ensures, c.default_object_alias.ensures.text, path, few);
      core = rw (c.alias_bucket-2.ensures, c.core_alias.ensures.text, path, few);
      leaf = c.leaf_bucket_in.ensures;
    }
