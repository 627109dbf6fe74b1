-- The rest of the chain has the last entry for the key.
use Rattle.std.proofs.Common.{ℕ, ◌-◌, ◌+◌, ◌/◌, ◌<◌, List, sym, refl, ap, ◌∙◌, ap₂, inl, inr, arith}
use Rattle.vrf_path.specs.Keys.{has_key}
use Rattle.vrf_words.specs.Words.{word}
use Rattle.vrf_table.specs.Table.{text}
use Rattle.vrf_table.specs.TextIndex.{text_bucket, text_start}
use Rattle.vrf_table.proofs.Laws.Table.{text_bucket-lt}
use Rattle.vrf_store.specs.Store.{store_of}
use Rattle.vrf_store.proofs.Laws.Memory.WellFormed.{path-walk}
use Rattle.vrf_writer.proofs.Laws.Clash.{walking_start, walking-step, keyed-from}
use Rattle.vrf_writer.proofs.clash.keyed_end.Goals as goal

pub get32-p-requires : goal.get32-p-requires
get32-p-requires c =
    let fits = path-walk c.requires.0.valid c.group_rows-rows.ensures c.texts-x.ensures refl c.path_buckets.ensures c.path_links-links.ensures c.path_heads.ensures c.requires.1 in
    omega (arith, c.text_bucket-bucket.ensures, text_bucket-lt c.path_buckets.result c.args.k.now fits.3, fits.2)

pub loop-p-init : goal.loop-p-init
unfolding text_start
loop-p-init c =
    let bucket = c.text_bucket-bucket.ensures ∙ ap (λ (b : ℕ). text_bucket b c.args.k.now) c.path_buckets.ensures in
    walking_start (store_of c.args.m.now) c.args.k.now c.requires.0.valid (c.get32-p.ensures ∙ ap₂ word c.path_heads.ensures bucket) (omega (arith, c.groups-limit.ensures))

pub returns-then-limit-e : goal.returns-then-limit-e
returns-then-limit-e c = keyed-from (store_of c.args.m.now) c.args.k.now c.loop-p.invariant (c.args.h + 1) (omega (arith, c.requires.2)) (inr (omega arith))

pub returns-then-is_key_of : goal.returns-then-is_key_of
returns-then-is_key_of c =
    let s = store_of c.args.m.now in
    let inside : (c.loop-p.p - 1) / 3 < s.header.groups = omega (arith, c.loop-p.invariant.within) in
    keyed-from s c.args.k.now c.loop-p.invariant ((c.loop-p.p - 1) / 3 + 1) (omega (arith, inside)) (inl (omega arith))

pub loop-p-preserved : goal.loop-p-preserved
loop-p-preserved c =
    let k = c.args.k.now in
    let path = c.row_text.ensures ∙ ap₂ (λ (r x : List ℕ). text r x ((c.loop-p.p - 1) / 3)) c.group_rows-rows.ensures c.texts-x.ensures in
    let away = ap (λ (t : List ℕ). has_key t k) (sym path) ∙ sym c.is_key_of.ensures ∙ c.if-is_key_of.false in
    walking-step (store_of c.args.m.now) k c.loop-p.invariant (omega arith) (omega arith) away (c.get32-p-in-loop-p.ensures ∙ ap (λ (w : List ℕ). word w (c.loop-p.p - 1)) c.path_links-links.ensures)

pub returns : goal.returns
returns c = keyed-from (store_of c.args.m.now) c.args.k.now c.loop-p.invariant (c.args.h + 1) (omega (arith, c.requires.2)) (inl (omega arith))
