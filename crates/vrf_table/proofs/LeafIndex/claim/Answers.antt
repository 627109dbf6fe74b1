-- `vrf_table::LeafIndex::claim` satisfies its contract.
use Rattle.std.proofs.Common.{ℕ, ap, ◌∙◌, append-nil, arith}
use Rattle.vrf_path.specs.Base.{leaf_base}
use Rattle.vrf_words.specs.Words.{word}
use Rattle.vrf_table.specs.TextIndex.{text_start, leaf_start, claim_of}
use Rattle.vrf_table.specs.Inner.TextIndex.{leaf_bucket}
use Rattle.vrf_table.specs.Inner.Found.{claim_found}
use Rattle.vrf_table.proofs.Laws.Table.{text_bucket-lt}
use Rattle.vrf_table.proofs.LeafIndex.claim.Goals as goal

pub get32-p-requires : goal.get32-p-requires
unfolding leaf_bucket
get32-p-requires c =
    let t = c.args.self.now in
    omega (arith, c.leaf_bucket-bucket.ensures, text_bucket-lt t.buckets (leaf_base c.args.l.now) t.some)

pub returns : goal.returns
unfolding claim_of leaf_bucket leaf_start text_start
returns c =
    let t = c.args.self.now in
    let start = c.get32-p.ensures ∙ ap (word t.heads.now) c.leaf_bucket-bucket.ensures in
    let found = rw (append-nil c.args.l.now) at c.claim.ensures in
    (c.leaf_bucket-bucket.ensures, found ∙ ap (λ (p : ℕ). claim_found t.chains p c.args.l.now) start)
