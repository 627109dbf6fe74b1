-- What `index_group` writes: one group is added to the three indexes, by path-name index, by path key and by leaf.
use Rattle.std.specs.Prelude.{ℕ, ◌+◌, ◌*◌}
use Rattle.vrf_store.specs.Store.{Store}
use Rattle.vrf_store.specs.Inner.Groups.{push_key, push_path, push_leaf, key_of, path_of, leaf_of}

unfoldable pub index_group : Store → ℕ → Store
index_group s g = push_leaf (push_path (push_path (push_path (push_key s g (key_of s g)) (3 * g) (path_of s g 0)) (3 * g + 1) (path_of s g 1)) (3 * g + 2) (path_of s g 2)) g (leaf_of s g)
