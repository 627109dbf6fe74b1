-- An index by text stays correct when an entry is added, and when the texts are equal.
use Rattle.std.specs.Prelude.{◌≡◌, ℕ, suc, ◌+◌, ◌*◌, ◌/◌, ◌%◌, ◌^◌, ◌<◌, ◌≤◌, Bool, true, false, cond, List, length}
use Rattle.std.proofs.Math.Path.{refl, sym, ap}
use Rattle.std.proofs.Common.{subst, ◌∙◌, arith}
use Rattle.std.proofs.Math.Option.{Option, none, some}
use Rattle.vrf_bitio.specs.Bits.{Bytes}
use Rattle.vrf_bitio.proofs.Laws.Cases.{by_order, clash}
use Rattle.vrf_path.specs.Keys.{key_is}
use Rattle.vrf_path.specs.Leaf.{leaf}
use Rattle.vrf_path.specs.Base.{leaf_base}
use Rattle.vrf_path.proofs.Laws.Keys.{the-true}
use Rattle.vrf_words.specs.Words.{word}
use Rattle.vrf_words.specs.Inner.Words.{set_word}
use Rattle.vrf_words.proofs.Laws.Words.{length-set_word, word-set_word-same, word-set_word-other, bytes-set_word, word_bound}
use Rattle.vrf_model.specs.Lookup.{Claim, absent, ambiguous, claimed}
use Rattle.vrf_table.specs.Chain.{walk, last_below}
use Rattle.vrf_table.specs.Index.{claim_unless_second, claim_from, claim_walk}
use Rattle.vrf_table.specs.Table.{text}
use Rattle.vrf_table.specs.TextIndex.{text_bucket, text_start, key_numbered, path_hit, leaf_hit, leaf_start}
use Rattle.vrf_table.specs.Inner.Index.{claim_below, FindsLast, FindsClaim}
use Rattle.vrf_table.specs.Inner.TextIndex.{leaf_bucket}
use Rattle.vrf_table.proofs.Laws.Chain.{by_equal, walk-past, walk-skip, last_below-suc}
use Rattle.vrf_table.proofs.Laws.Index.{by-true, Grown, latest-grown, claims-grown, latest-alike, claims-alike, kept, newest}
use Rattle.vrf_table.proofs.Laws.Table.{text_bucket-lt}
use Rattle.vrf_store.specs.Inner.Groups.{bucket_of, unless_shared, joined_by, linked, headed, BucketBelow}

-- the buckets of an index by text: β gives one of b buckets, that of the text or that of its base, and `start` reads the head of that
-- bucket
pub record Bucketed (b : ℕ) (β : List ℕ → ℕ) (start : List ℕ → List ℕ → ℕ) : Type 0 where
  pub below : (t : List ℕ) → β t < b
  pub at_head : (heads t : List ℕ) → start heads t ≡ word heads (β t)

module _ (b : ℕ) (some-bucket : 0 < b) where
  pub by-text : Bucketed b (text_bucket b) (λ heads. text_start heads b)
  unfolding text_start
  by-text = record { below = λ t. text_bucket-lt b t some-bucket; at_head = λ heads t. refl }

  pub by-base : Bucketed b (leaf_bucket b) (λ heads. leaf_start heads b)
  unfolding leaf_bucket leaf_start text_start
  by-base = record { below = λ t. text_bucket-lt b (leaf_base t) some-bucket; at_head = λ heads t. refl }

pub bucket_of-below : {b : ℕ} {β : List ℕ → ℕ} {start : List ℕ → List ℕ → ℕ} → Bucketed b β start → (o : Option (List ℕ)) → BucketBelow b (bucket_of β o)
unfolding bucket_of
bucket_of-below k none = tt
bucket_of-below k (some t) = k.below t

pub joined_by-below : (claim : List ℕ → Claim) {b : ℕ} {β : List ℕ → ℕ} {start : List ℕ → List ℕ → ℕ} → Bucketed b β start → (o : Option (List ℕ)) → BucketBelow b (joined_by claim β o)
unfolding joined_by unless_shared
joined_by-below claim k none = tt
joined_by-below claim {b} {β} k (some t) = go (claim t)
  where
    go : (c : Claim) → BucketBelow b (unless_shared c (β t))
    go absent = k.below t
    go ambiguous = tt
    go (claimed e) = k.below t

module _ (links heads : List ℕ) (i : ℕ) (fits : 4 * i + 4 ≤ length links) where
  pub length-linked : (o : Option ℕ) → length (linked links heads i o) ≡ length links
  unfolding linked
  length-linked none = refl
  length-linked (some h) = length-set_word links i (word heads h) fits

module _ (heads : List ℕ) (b p : ℕ) (buckets : 4 * b ≤ length heads) where
  pub length-headed : (o : Option ℕ) → BucketBelow b o → length (headed heads p o) ≡ length heads
  unfolding headed
  length-headed none k = refl
  length-headed (some h) k = length-set_word heads h p (omega (arith, k))

  bytes-headed : Bytes heads → (o : Option ℕ) → BucketBelow b o → Bytes (headed heads p o)
  unfolding headed
  bytes-headed s none k = s
  bytes-headed s (some h) k = bytes-set_word heads h p s (omega (arith, k))

-- what adding entry e requires
pub record NewEntry (links heads : List ℕ) (b e : ℕ) : Type 0 where
  pub fits : 4 * e + 4 ≤ length links
  pub buckets : 4 * b ≤ length heads
  pub few : e + 1 < 2 ^ 32
  pub bytes : Bytes heads

module _ {b : ℕ} {β : List ℕ → ℕ} {start : List ℕ → List ℕ → ℕ} (by-bucket : Bucketed b β start) (hit : List ℕ → ℕ → Bool) (links heads : List ℕ) (e : ℕ) (w : NewEntry links heads b e) (o : Option (List ℕ)) (h : (t : List ℕ) → hit t e ≡ key_is o t) where
  abbrev links' : List ℕ
  links' = linked links heads e (bucket_of β o)

  abbrev heads' : List ℕ
  heads' = headed heads (e + 1) (bucket_of β o)

  entry-grown : Grown hit hit (word links) (word links') (start heads) (start heads') e
  unfolding linked headed bucket_of key_is
  entry-grown = go o h
    where
      in-heads : (t : List ℕ) → 4 * β t + 4 ≤ length heads
      in-heads t = omega (arith, by-bucket.below t, w.buckets)

      go : (o : Option (List ℕ)) → ((t : List ℕ) → hit t e ≡ key_is o t) → Grown hit hit (word links) (word (linked links heads e (bucket_of β o))) (start heads) (start (headed heads (e + 1) (bucket_of β o))) e
      go none h = record { hits = λ y i k. refl; links = λ i k. refl; chains = λ y. kept (h y) refl }
      go (some t) h = record {
        hits = λ y i k. refl;
        links = λ i k. sym (word-set_word-other links e (word heads (β t)) i w.fits (λ q. omega (arith, k, q)));
        chains = λ y. by_equal (β y) (β t)
            (λ q. newest (by-bucket.at_head _ y ∙ ap (word (set_word heads (β t) (e + 1))) q ∙ word-set_word-same heads (β t) (e + 1) (in-heads t) w.few ∙ omega arith)
            (word-set_word-same links e (word heads (β t)) w.fits (word_bound heads (β t) w.bytes) ∙ ap (word heads) (sym q) ∙ sym (by-bucket.at_head heads y)))
            (λ q. kept (by-true (hit y e) (λ z. let same : some t ≡ some y = the-true (some t) y (sym (h y) ∙ z) in q (ap β (let r : y ≡ t = cc in r))))
            (by-bucket.at_head _ y ∙ word-set_word-other heads (β t) (e + 1) (β y) (in-heads t) q ∙ sym (by-bucket.at_head heads y)));
      }

  pub latest-entry : FindsLast hit (word links) (start heads) e → FindsLast hit (word links') (start heads') (suc e)
  latest-entry = latest-grown hit hit (word links) (word links') (start heads) (start heads') e entry-grown

  pub claims-entry : FindsClaim hit (word links) (start heads) e → FindsClaim hit (word links') (start heads') (suc e)
  claims-entry = claims-grown hit hit (word links) (word links') (start heads) (start heads') e entry-grown

  -- after one entry, the next can be added
  pub next-entry : 4 * (e + 1) + 4 ≤ length links → e + 2 < 2 ^ 32 → NewEntry links' heads' b (e + 1)
  next-entry more few =
      let below = bucket_of-below by-bucket o in
      record {
        fits = rw (length-linked links heads e w.fits (bucket_of β o)) more;
        buckets = rw (length-headed heads b (e + 1) w.buckets (bucket_of β o) below) w.buckets;
        few = omega (arith, few);
        bytes = bytes-headed heads b (e + 1) w.buckets w.bytes (bucket_of β o) below;
      }

-- a third entry with a key need not join the chain: two entries show already that the key is ambiguous
module _ (hit : List ℕ → ℕ → Bool) (link : ℕ → ℕ) (start : List ℕ → ℕ) (e : ℕ) (l : List ℕ) (h : (t : List ℕ) → hit t e ≡ key_is (some l) t) (shared : claim_walk (hit l) link e (start l) ≡ ambiguous) where
  again : (f : ℕ → Option ℕ) (o : Option ℕ) (n : ℕ) → claim_from f o ≡ ambiguous → claim_unless_second n o ≡ ambiguous
  unfolding claim_from claim_unless_second
  again f none n c = clash cc
  again f (some i) n c = refl

  -- the walk for l does not reach entry e
  walk_more : walk (hit l) link (suc e) (start l) ≡ walk (hit l) link e (start l)
  unfolding claim_walk claim_from
  walk_more = by_order (start l) e
      (λ k. walk-skip (hit l) link (suc e) (start l) (omega (arith, k)) ∙ sym (walk-skip (hit l) link e (start l) k))
      (λ k. clash (let gone = walk-past (hit l) link e (start l) k in let z : absent ≡ ambiguous = rw gone at shared in cc))

  shared-still : FindsClaim hit link start e → hit l e ≡ true → claim_walk (hit l) link (suc e) (start l) ≡ claim_below (hit l) (suc e)
  unfolding claim_walk claim_below claim_from
  shared-still known q =
      let last : last_below (hit l) (suc e) ≡ some e = last_below-suc (hit l) e ∙ ap (λ (b : Bool). cond b (some e) (last_below (hit l) e)) q in
      ap (claim_from (λ i. walk (hit l) link i (link i))) walk_more ∙ shared
      ∙ sym (ap (claim_from (last_below (hit l))) last ∙ again (last_below (hit l)) (last_below (hit l) e) e (sym (known l) ∙ shared))

  pub claims-shared : FindsClaim hit link start e → FindsClaim hit link start (suc e)
  claims-shared known y = by (hit y e) refl
    where
      by : (b : Bool) → hit y e ≡ b → claim_walk (hit y) link (suc e) (start y) ≡ claim_below (hit y) (suc e)
      by true q =
          let same : some l ≡ some y = the-true (some l) y (sym (h y) ∙ q) in
          let is : l ≡ y = cc in
          subst (λ (z : List ℕ). claim_walk (hit z) link (suc e) (start z) ≡ claim_below (hit z) (suc e)) is (shared-still known (rw is q))
      by false q = claims-grown {K = Unit {0}} (λ _. hit y) (λ _. hit y) link link (λ _. start y) (λ _. start y) e (record { hits = λ _ i k. refl; links = λ i k. refl; chains = λ _. kept q refl }) (λ _. known y) tt

-- ---- equal texts

module _ (r x r' y : List ℕ) (n : ℕ) (same : (e : ℕ) → e < n → text r' y e ≡ text r x e) (links heads : List ℕ) (b : ℕ) where
  pub same-paths : FindsLast (path_hit r x) (word links) (text_start heads b) (3 * n) → FindsLast (path_hit r' y) (word links) (text_start heads b) (3 * n)
  unfolding path_hit
  same-paths = latest-alike (path_hit r x) (path_hit r' y) (word links) (word links) (text_start heads b) (text_start heads b) (3 * n)
      (record { hits = λ k e h. ap (λ (t : List ℕ). key_is (key_numbered t (e % 3)) k) (sym (same (e / 3) (omega (arith, h)))); links = λ e h. refl; starts = λ k. refl })

  pub same-leaves : FindsClaim (leaf_hit r x) (word links) (leaf_start heads b) n → FindsClaim (leaf_hit r' y) (word links) (leaf_start heads b) n
  unfolding leaf_hit
  same-leaves = claims-alike (leaf_hit r x) (leaf_hit r' y) (word links) (word links) (leaf_start heads b) (leaf_start heads b) n
      (record { hits = λ l e h. ap (λ (t : List ℕ). key_is (leaf t) l) (sym (same e h)); links = λ e h. refl; starts = λ l. refl })
