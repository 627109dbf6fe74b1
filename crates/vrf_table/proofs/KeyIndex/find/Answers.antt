-- `vrf_table::KeyIndex::find` satisfies its contract: it walks the chain of the key's bucket.
use Rattle.std.proofs.Common.{ap, ◌∙◌, arith, rules}
use Rattle.vrf_words.specs.Words.{word}
use Rattle.vrf_table.specs.Chain.{walk}
use Rattle.vrf_table.specs.Table.{key, link, key_hit, key_start, find_key}
use Rattle.vrf_table.proofs.Laws.Table.{key_bucket-lt}
use Rattle.vrf_table.proofs.KeyIndex.find.Goals as goal

pub get32-p-requires : goal.get32-p-requires
get32-p-requires c = let t = c.args.self in omega (arith, c.key_bucket.ensures, key_bucket-lt t.buckets c.args.k t.some)

pub returns : goal.returns
unfolding find_key key_start key_hit key link
returns c =
    let t = c.args.self in
    c.walk.ensures (key_hit t.rows.now c.args.k) (link t.rows.now) (λ e r h made. search rules) (λ e q h made. search rules)
    ∙ ap (walk (key_hit t.rows.now c.args.k) (link t.rows.now) t.count) (c.get32-p.ensures ∙ ap (word t.heads.now) c.key_bucket.ensures)
