-- `vrf_table::PathIndex::find` satisfies its contract: it walks the chain of the key's bucket.
use Rattle.std.proofs.Common.{◌*◌, ap, ◌∙◌, arith, rules}
use Rattle.vrf_words.specs.Words.{word}
use Rattle.vrf_table.specs.Chain.{walk}
use Rattle.vrf_table.specs.TextIndex.{text_start, path_hit, find_path}
use Rattle.vrf_table.proofs.Laws.Table.{text_bucket-lt}
use Rattle.vrf_table.proofs.PathIndex.find.Goals as goal

pub get32-p-requires : goal.get32-p-requires
get32-p-requires c = let t = c.args.self.now in omega (arith, c.text_bucket.ensures, text_bucket-lt t.buckets c.args.k.now t.some)

pub returns : goal.returns
unfolding find_path text_start
returns c =
    let t = c.args.self.now in
    let hit = path_hit t.groups.rows.now t.groups.texts.now c.args.k.now in
    c.walk.ensures hit (word t.links.now) (λ e r h made. search rules) (λ e q h made. search rules)
    ∙ ap (walk hit (word t.links.now) (3 * t.groups.count)) (c.get32-p.ensures ∙ ap (word t.heads.now) c.text_bucket.ensures)
