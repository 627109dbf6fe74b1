-- A good table stays good: when a row is added, when a row gets a new text, and when the texts grow.
use Rattle.std.specs.Prelude.{◌≡◌, ℕ, suc, ◌+◌, ◌*◌, ◌^◌, ◌<◌, ◌≤◌, ◌≢◌, List, length, nat_eq, refl}
use Rattle.std.proofs.Math.Path.{sym, ap}
use Rattle.std.proofs.Common.{◌∙◌, arith}
use Rattle.std.proofs.Math.Option.{none, some}
use borrow.Author.Tests.{eq-eqb, ne_eqb}
use Rattle.vrf_text.specs.Text.{IsText}
use Rattle.vrf_bitio.proofs.Laws.Cases.{clash}
use Rattle.vrf_words.specs.Words.{word, part}
use Rattle.vrf_words.specs.Inner.Words.{set_word}
use Rattle.vrf_words.proofs.Laws.Words.{word-set_word-same, word-set_word-other}
use Rattle.vrf_table.specs.Table.{key, link, at, len, info, text, key_hit, key_bucket, key_start, find_key}
use Rattle.vrf_table.specs.Inner.Index.{FindsLast}
use Rattle.vrf_table.specs.Inner.Table.{set_text}
use Rattle.vrf_table.proofs.Laws.Chain.{by_equal, last_below-reach}
use Rattle.vrf_table.proofs.Laws.Index.{Chained, Grown, latest-grown, latest-alike, kept, newest}
use Rattle.vrf_table.proofs.Laws.Table.{key_bucket-lt, length-set_key, length-set_text, key-set_key, key-set_key-other, link-set_key, link-set_key-other, at-set_key, len-set_key, info-set_key, key-set_text}
use Rattle.vrf_table.proofs.Laws.Table.{link-set_text, at-set_text, len-set_text, info-set_text, at-set_text-other, len-set_text-other, info-set_text-other}
use Rattle.vrf_store.specs.Inner.Valid.{ValidText, ValidTable}
use Rattle.vrf_store.specs.Inner.Memory.{push_row, TextPlaced}

-- ---- adding a row

module _ (r : List ℕ) (n k p a l i : ℕ) (fits : 24 * n + 24 ≤ length r) where
  fits-text : 24 * n + 24 ≤ length (set_text r n a l i)
  fits-text = omega (arith, length-set_text r n a l i fits)

  pub length-push_row : length (push_row r n k p a l i) ≡ length r
  unfolding push_row
  length-push_row = length-set_key (set_text r n a l i) n k p fits-text ∙ length-set_text r n a l i fits

  pub key-push_row : k < 2 ^ 64 → key (push_row r n k p a l i) n ≡ k
  unfolding push_row
  key-push_row h = key-set_key (set_text r n a l i) n k p fits-text h

  pub link-push_row : p < 2 ^ 32 → link (push_row r n k p a l i) n ≡ p
  unfolding push_row
  link-push_row h = link-set_key (set_text r n a l i) n k p fits-text h

  pub at-push_row : a < 2 ^ 32 → at (push_row r n k p a l i) n ≡ a
  unfolding push_row
  at-push_row h = at-set_key (set_text r n a l i) n k p fits-text n ∙ at-set_text r n a l i fits h

  pub len-push_row : l < 2 ^ 32 → len (push_row r n k p a l i) n ≡ l
  unfolding push_row
  len-push_row h = len-set_key (set_text r n a l i) n k p fits-text n ∙ len-set_text r n a l i fits h

  pub info-push_row : i < 2 ^ 32 → info (push_row r n k p a l i) n ≡ i
  unfolding push_row
  info-push_row h = info-set_key (set_text r n a l i) n k p fits-text n ∙ info-set_text r n a l i fits h

  module _ (j : ℕ) (ne : j ≢ n) where
    pub key-push_row-other : key (push_row r n k p a l i) j ≡ key r j
    unfolding push_row
    key-push_row-other = key-set_key-other (set_text r n a l i) n k p fits-text j ne ∙ key-set_text r n a l i fits j

    pub link-push_row-other : link (push_row r n k p a l i) j ≡ link r j
    unfolding push_row
    link-push_row-other = link-set_key-other (set_text r n a l i) n k p fits-text j ne ∙ link-set_text r n a l i fits j

    pub at-push_row-other : at (push_row r n k p a l i) j ≡ at r j
    unfolding push_row
    at-push_row-other = at-set_key (set_text r n a l i) n k p fits-text j ∙ at-set_text-other r n a l i fits j ne

    pub len-push_row-other : len (push_row r n k p a l i) j ≡ len r j
    unfolding push_row
    len-push_row-other = len-set_key (set_text r n a l i) n k p fits-text j ∙ len-set_text-other r n a l i fits j ne

    pub info-push_row-other : info (push_row r n k p a l i) j ≡ info r j
    unfolding push_row
    info-push_row-other = info-set_key (set_text r n a l i) n k p fits-text j ∙ info-set_text-other r n a l i fits j ne

    pub text-push_row-other : (x : List ℕ) → text (push_row r n k p a l i) x j ≡ text r x j
    unfolding text
    text-push_row-other x = rw (at-push_row-other, len-push_row-other)

  pub text-push_row : (x : List ℕ) → a < 2 ^ 32 → l < 2 ^ 32 → text (push_row r n k p a l i) x n ≡ part x a l
  unfolding text
  text-push_row x h h' = rw (at-push_row h, len-push_row h')

-- whether a text is good depends only on its place and length
pub good-text : (used : ℕ) (x r r' : List ℕ) (e e' : ℕ) → at r e ≡ at r' e' → len r e ≡ len r' e' → ValidText used x r e → ValidText used x r' e'
unfolding text
good-text used x r r' e e' p q g = record { within = rw (p, q) at g.within; is_text = rw (p, q) at g.is_text }

-- rows with the same keys and links are found from the same heads
pub same_keys : (r r' heads : List ℕ) (b n : ℕ) → ((e : ℕ) → e < n → key r' e ≡ key r e) → ((e : ℕ) → e < n → link r' e ≡ link r e) → FindsLast (key_hit r) (link r) (key_start heads b) n → FindsLast (key_hit r') (link r') (key_start heads b) n
unfolding key_hit
same_keys r r' heads b n keys links = latest-alike (key_hit r) (key_hit r') (link r) (link r') (key_start heads b) (key_start heads b) n
    (record { hits = λ y e h. ap (λ (z : ℕ). nat_eq z y) (sym (keys e h)); links = λ e h. sym (links e h); starts = λ y. refl })

-- what writing row e of n requires: its text is good, its key differs from the keys of the other rows, and these are good
pub record PutRow (used : ℕ) (x r : List ℕ) (n e k a l : ℕ) : Type 0 where
  pub fits : 24 * e + 24 ≤ length r
  pub key_fits : k < 2 ^ 64
  pub at-fits : a < 2 ^ 32
  pub len-fits : l < 2 ^ 32
  pub placed : TextPlaced used x a l
  pub texts : (j : ℕ) → j < n → j ≢ e → ValidText used x r j
  pub distinct : (u v : ℕ) → u < n → v < n → u ≢ e → v ≢ e → key r u ≡ key r v → u ≡ v
  pub new : (j : ℕ) → j < n → j ≢ e → key r j ≢ k

module _ {used : ℕ} {x r : List ℕ} {n e k a l : ℕ} (w : PutRow used x r n e k a l) (p i : ℕ) where
  abbrev put : List ℕ
  put = push_row r e k p a l i

  pub put-text : (j : ℕ) → j < n → ValidText used x put j
  put-text j h = by_equal j e
      (λ q. record {
        within = rw (q, at-push_row r e k p a l i w.fits w.at-fits, len-push_row r e k p a l i w.fits w.len-fits) w.placed.within;
        is_text = rw (q, text-push_row r e k p a l i w.fits x w.at-fits w.len-fits) w.placed.is_text;
      })
      (λ q. good-text used x r put j j (sym (at-push_row-other r e k p a l i w.fits j q)) (sym (len-push_row-other r e k p a l i w.fits j q)) (w.texts j h q))

  put-new : (j : ℕ) → j < n → j ≢ e → key put j ≢ key put e
  put-new j h q z = w.new j h q (sym (key-push_row-other r e k p a l i w.fits j q) ∙ z ∙ key-push_row r e k p a l i w.fits w.key_fits)

  pub put-distinct : (u v : ℕ) → u < n → v < n → key put u ≡ key put v → u ≡ v
  put-distinct u v hu hv z = by_equal u e
      (λ qu. by_equal v e (λ qv. qu ∙ sym qv) (λ qv. absurd (put-new v hv qv (sym z ∙ ap (key put) qu))))
      (λ qu. by_equal v e (λ qv. absurd (put-new u hu qu (z ∙ ap (key put) qv)))
      (λ qv. w.distinct u v hu hv qu qv (sym (key-push_row-other r e k p a l i w.fits u qu) ∙ z ∙ key-push_row-other r e k p a l i w.fits v qv)))

-- if a key is not found, no row has it
pub not_found : (used : ℕ) (x r heads : List ℕ) (b n k : ℕ) → ValidTable used x r heads b n → find_key r heads b n k ≡ none → (e : ℕ) → e < n → key r e ≢ k
unfolding find_key key_hit
not_found used x r heads b n k g f e h q =
    let reach = last_below-reach (key_hit r k) n e h (eq-eqb _ _ q) in
    clash (let z : none ≡ some reach.0 = sym f ∙ (g.latest k ∙ reach.1.0) in cc)

-- what adding row n requires: its key is new, its text is good, and its numbers fit 32 bits
pub record NewRow (used : ℕ) (x r heads : List ℕ) (b n k a l i : ℕ) : Type 0 where
  pub fits : 24 * n + 24 ≤ length r
  pub buckets : 4 * b ≤ length heads
  pub some-bucket : 0 < b
  pub few : suc n < 2 ^ 32
  pub key_fits : k < 2 ^ 64
  pub head-fits : key_start heads b k < 2 ^ 32
  pub at-fits : a < 2 ^ 32
  pub len-fits : l < 2 ^ 32
  pub new : find_key r heads b n k ≡ none
  pub within : a + l ≤ used
  pub is_text : IsText (part x a l)

module _ (used : ℕ) (x r heads : List ℕ) (b n k a l i : ℕ) (w : NewRow used x r heads b n k a l i) (g : ValidTable used x r heads b n) where
  abbrev r' : List ℕ
  r' = push_row r n k (key_start heads b k) a l i

  abbrev heads' : List ℕ
  heads' = set_word heads (key_bucket b k) (suc n)

  in-heads : (y : ℕ) → 4 * key_bucket b y + 4 ≤ length heads
  in-heads y = omega (arith, key_bucket-lt b y w.some-bucket, w.buckets)

  apart : (e : ℕ) → e < n → e ≢ n
  apart e h q = omega (arith, h, q)

  push-chained : (y : ℕ) → Chained (key_hit r) (key_hit r') (link r) (link r') (key_start heads b) (key_start heads' b) n y
  unfolding key_hit key_start
  push-chained y = by_equal (key_bucket b y) (key_bucket b k)
      (λ q. newest (ap (word heads') q ∙ word-set_word-same heads (key_bucket b k) (suc n) (in-heads k) w.few)
      (link-push_row r n k (key_start heads b k) a l i w.fits w.head-fits ∙ ap (word heads) (sym q)))
      (λ q. kept (ap (λ (z : ℕ). nat_eq z y) (key-push_row r n k (key_start heads b k) a l i w.fits w.key_fits) ∙ ne_eqb k y (λ z. q (ap (key_bucket b) (sym z))))
      (word-set_word-other heads (key_bucket b k) (suc n) (key_bucket b y) (in-heads k) q))

  push-grown : Grown (key_hit r) (key_hit r') (link r) (link r') (key_start heads b) (key_start heads' b) n
  unfolding key_hit
  push-grown = record {
    hits = λ y e h. ap (λ (z : ℕ). nat_eq z y) (sym (key-push_row-other r n k (key_start heads b k) a l i w.fits e (apart e h)));
    links = λ e h. sym (link-push_row-other r n k (key_start heads b k) a l i w.fits e (apart e h));
    chains = push-chained;
  }

  push-row : PutRow used x r (suc n) n k a l
  push-row = record {
    fits = w.fits;
    key_fits = w.key_fits;
    at-fits = w.at-fits;
    len-fits = w.len-fits;
    placed = record { within = w.within; is_text = w.is_text };
    texts = λ j h q. g.texts j (omega (arith, h, q));
    distinct = λ u v hu hv qu qv. g.distinct u v (omega (arith, hu, qu)) (omega (arith, hv, qv));
    new = λ j h q. not_found used x r heads b n k g w.new j (omega (arith, h, q));
  }

  pub push-table : ValidTable used x r' heads' b (suc n)
  push-table = record { texts = put-text push-row (key_start heads b k) i; distinct = put-distinct push-row (key_start heads b k) i; latest = latest-grown (key_hit r) (key_hit r') (link r) (link r') (key_start heads b) (key_start heads' b) n push-grown g.latest }

-- ---- changing the text of a row

module _ (used : ℕ) (x r heads : List ℕ) (b n e a l i : ℕ) (in_table : e < n) (fits : 24 * n ≤ length r) (at-fits : a < 2 ^ 32) (len-fits : l < 2 ^ 32) (p : TextPlaced used x a l) (g : ValidTable used x r heads b n) where
  space : 24 * e + 24 ≤ length r
  space = omega (arith, in_table, fits)

  set-text : (j : ℕ) → j < n → ValidText used x (set_text r e a l i) j
  unfolding text
  set-text j h = by_equal j e
      (λ q. let there = at-set_text r e a l i space at-fits in
      let long = len-set_text r e a l i space len-fits in
      record { within = rw (q, there, long) p.within; is_text = rw (q, there, long) p.is_text })
      (λ q. good-text used x r (set_text r e a l i) j j (sym (at-set_text-other r e a l i space j q)) (sym (len-set_text-other r e a l i space j q)) (g.texts j h))

  pub set-table : ValidTable used x (set_text r e a l i) heads b n
  set-table = record {
    texts = set-text;
    distinct = λ u v hu hv q. g.distinct u v hu hv (sym (key-set_text r e a l i space u) ∙ q ∙ key-set_text r e a l i space v);
    latest = same_keys r (set_text r e a l i) heads b n (λ j h. key-set_text r e a l i space j) (λ j h. link-set_text r e a l i space j) g.latest;
  }
