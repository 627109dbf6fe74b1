-- The GUIDs of a block: one law for each path through each part of an entry. The code's counts and stored positions keep representing the
-- definition's table. Used by the proofs of `guids`.
use Rattle.std.specs.Prelude.{◌≡◌, ◌≢◌, List, [], ◌∷◌, ◌++◌, ℕ, suc, ◌+◌, ◌-◌, ◌*◌, ◌^◌, ◌≤◌, ◌<◌, length, get_or, take, Result, Ok, Err}
use Rattle.std.proofs.Math.Path.{refl, sym, ap}
use Rattle.std.proofs.Common.{◌∙◌, arith, length-append, lt-ltb, le-ltb, eq-eqb, ne_eqb}
use Rattle.std.proofs.Math.Decide.{dec_lt}
use Rattle.std.proofs.Math.ListN.{get_or-append}
use Rattle.std.proofs.lemmas.List.{get_or_at}
use Rattle.vrf_bitio.specs.Number.{byte, packed}
use Rattle.vrf_bitio.specs.Answers.{rest_of, read_here, Gave, Refuses}
use Rattle.vrf_bitio.specs.declared.BitReader.{BitReader}
use Rattle.vrf_bitio.specs.declared.Reason.TheVariants.{AllowancePassed, BadPathKind, PathIndexOutOfBounds}
use Rattle.vrf_bitio.specs.declared.Refusal.{Refusal}
use Rattle.vrf_text.specs.Text.{fstring}
use Rattle.vrf_words.specs.Words.{word}
use Rattle.vrf_words.specs.Inner.Words.{set_word}
use Rattle.vrf_words.proofs.Laws.Words.{length-set_word, word-set_word-same, word-set_word-other}
use Rattle.vrf_model.specs.Book.{Content, Increments}
use Rattle.vrf_model.specs.Setting.{refuses, set_guid}
use Rattle.vrf_model.specs.Parser.{Parser, return, fail, ◌>>=◌, read, parsed_step, step}
use Rattle.vrf_model.specs.Block.{PathTable, no_paths, take_literal, literal, resolved, by_table, path_of_kind, block_guid, block_guids}
use Rattle.vrf_model.proofs.Laws.Parser.{add_none}
use Rattle.vrf_store.specs.Store.{allowances_of, store_of, content_of}
use Rattle.vrf_store.specs.Inner.WellFormed.{WellFormed}
use Rattle.vrf_store.specs.Inner.Stepped.{held}
use Rattle.vrf_store.specs.Inner.Literals.{LiteralPut}
use Rattle.vrf_store.proofs.Laws.Literals.{literals-long}
use Rattle.vrf_cache.specs.Inner.Taken.{Taken, NotTaken}
use Rattle.vrf_reader.specs.Inner.Within.{SameWindow}
use Rattle.vrf_reader.specs.Inner.Simulates.{Simulates, Refines}
use Rattle.vrf_reader.specs.Inner.Texts.{TextRead}
use Rattle.vrf_reader.proofs.Laws.Simulates.{gave-window, window-kept, alike, stays, taken, not_taken, read-on, read-stops, then, bind, bind-stop, stops}
use Rattle.vrf_reader.proofs.Laws.Chained.{assoc, onward-same}
use Rattle.vrf_reader.proofs.Laws.Texts.{text-is-text}
use Rattle.vrf_checkpoint.specs.Inner.Guids.{ReadAgain, Represents, AtMostEntries, BeforeEntry, PathOf, PathReads, GuidTo, GuidReads}
use Rattle.vrf_checkpoint.specs.declared.guids.Paths.{Paths}

-- ---- the same window and the same stored positions

-- the reader d has the window of r
module _ {r d : BitReader} (w : SameWindow r d) where
  again-on : {p : ℕ} {text : List ℕ} → ReadAgain r p text → ReadAgain d p text
  again-on a = record { at = a.at; left = a.left; read = rw (w.same, w.first, w.count) a.read }

  pub represents-on : {l l' : List ℕ} {t : Paths} {table : PathTable} → l' ≡ l → Represents r l t table → Represents d l' t table
  represents-on same h = record {
    many = h.many;
    literals = h.literals;
    indexed = h.indexed;
    resolved = h.resolved;
    found = λ i low. again-on (rw same (h.found i low));
  }

  pub counting-on : {m scratch : List ℕ} {entry : ℕ} {t : Paths} → BeforeEntry r m scratch entry t → BeforeEntry d m scratch entry t
  counting-on b = record {
    good = b.good;
    wide = b.wide;
    entries = b.entries;
    few = b.few;
    table = b.table;
    represents = represents-on refl b.represents;
  }

module _ {m m' : List ℕ} (good : WellFormed m) (good' : WellFormed m') where
  -- if as many positions are stored, as many literals are allowed
  allowed_same : length (store_of m').literals ≡ length (store_of m).literals → (allowances_of m').literals ≡ (allowances_of m).literals
  allowed_same e = omega (arith, literals-long good, literals-long good', e)

  pub few_on : {entries : ℕ} {t : Paths} → (store_of m').literals ≡ (store_of m).literals → AtMostEntries m entries t
      → AtMostEntries m' entries t
  few_on same f = record {
    literals = f.literals;
    indexed = f.indexed;
    resolved = f.resolved;
    allowed = omega (arith, f.allowed, allowed_same (ap length same));
  }

-- ---- kind 1: a literal

-- an allowed literal leaves the book as it is; its position is stored
put-simulates : {r : BitReader} {m m' : List ℕ} {i p : ℕ} (n : ℕ) → n ≤ (allowances_of m).literals → LiteralPut m m' i p
    → Simulates (step (take_literal n)) r m (return tt) r m'
unfolding step parsed_step return take_literal content_of
put-simulates {r} {m} {m'} n low put = record {
  adds = λ t. t;
  simulates = λ t. rw (le-ltb (allowances_of m).literals n low, add_none t, put.content);
  counters = λ b t h. put.counters ∙ h;
  good = put.good;
  long = put.long;
  same = refl;
  first = refl;
  count = refl;
}

pub passes : (m : List ℕ) (n : ℕ) → (allowances_of m).literals < n → take_literal n (held m) ≡ refuses 42 5 0
unfolding take_literal content_of
passes m n h = rw (lt-ltb (allowances_of m).literals n h)

-- the table with one more literal
abbrev more : PathTable → List ℕ → PathTable
more table text = record {
  paths = table.paths ++ (text ∷ []);
  literals = table.literals + 1;
  indexed = table.indexed;
  resolved = table.resolved;
}

abbrev one_more : Paths → Paths
one_more t = record { literals = t.literals + 1; indexed = t.indexed; resolved = t.resolved }

module _ {l : List ℕ} {r d : BitReader} {t : Paths} {table : PathTable} {text : List ℕ} (represents : Represents r l t table)
    (g : Gave r (read_here r fstring) text d) (small : r.pos < 2 ^ 32) (space : 4 * t.literals + 4 ≤ length l) where
  found-more : (i : ℕ) → i < length table.paths + 1
      → ReadAgain d (word (set_word l t.literals r.pos) i) (get_or (table.paths ++ (text ∷ [])) i [])
  found-more i low = elim (dec_lt i (length table.paths)) [
    | yes old ↦
        let other = word-set_word-other l t.literals r.pos i space (λ e. omega (arith, e, old, represents.many)) in
        rw (other, get_or-append table.paths (text ∷ []) [] i old) (again-on (gave-window g) (represents.found i old))
    | no new ↦
        let e : i ≡ t.literals = omega (arith, new, low, represents.many) in
        rw (e, word-set_word-same l t.literals r.pos space small, get_or_at table.paths text [] [] t.literals (sym represents.many))
        (again-on (gave-window g) (record { at = d.pos; left = rest_of d; read = g.read }))
  ]

  represents-more : Represents d (set_word l t.literals r.pos) (one_more t) (more table text)
  represents-more = record {
    many = rw length-append (omega (arith, represents.many));
    literals = ap (λ (k : ℕ). k + 1) represents.literals;
    indexed = represents.indexed;
    resolved = represents.resolved;
    found = λ i low. found-more i (omega (arith, low, length-append table.paths (text ∷ [])));
  }

module _ {r : BitReader} {m : List ℕ} {t : Paths} {table : PathTable} (good : WellFormed m) (represents : Represents r (store_of m).literals t table) where
  pub no-literal : (q : Refusal) → Refuses (read_here r fstring) q → Refines (literal table) r r m m (Err q)
  unfolding literal
  no-literal q e = read-stops fstring _ good q e

  pub literal-passed : {text : List ℕ} {d : BitReader} → Gave r (read_here r fstring) text d → (allowances_of m).literals ≤ t.literals
      → Simulates (literal table) r m (fail 42 5 0) r m
  unfolding literal
  literal-passed g full =
      let q : Refusal = record { reason = AllowancePassed; a = 5; b = 0 } in
      let step : NotTaken _ q m m = record { step = passes m _ (omega (arith, full, represents.literals)); same = refl } in
      stops (read-on fstring _ good g) q (bind-stop _ q (not_taken (take_literal (table.literals + 1)) good step))

  pub literal-taken : {d : BitReader} {m' scratch : List ℕ} {entry n : ℕ} → TextRead r (read_here r fstring) scratch n d → AtMostEntries m entry t
      → t.literals < (allowances_of m).literals → r.pos < 2 ^ 32 → LiteralPut m m' t.literals r.pos
      → PathOf (literal table) r d m m' scratch entry n (one_more t)
  unfolding literal
  literal-taken x few free small put =
      let long : 4 * t.literals + 4 ≤ length (store_of m).literals = omega (arith, literals-long good, free) in
      let same = ap length put.literals ∙ length-set_word (store_of m).literals t.literals _ long in
      let own = put-simulates (table.literals + 1) (omega (arith, free, represents.literals)) put in
      record {
        text = x.text;
        table = more table x.text;
        simulates = then (read-on fstring _ good x.gave) (bind _ own);
        here = x.here;
        fits = x.fits;
        is_text = text-is-text x.gave;
        represents = rw put.literals (represents-more represents x.gave small long);
        few = record {
          literals = omega (arith, few.literals);
          indexed = omega (arith, few.indexed);
          resolved = omega (arith, few.resolved);
          allowed = omega (arith, free, allowed_same good put.good same);
        };
      }

-- ---- kind 0: a place

abbrev one_placed : Paths → Paths
one_placed t = record { literals = t.literals; indexed = t.indexed + 1; resolved = t.resolved + 1 }

module _ {r : BitReader} {m : List ℕ} {t : Paths} {table : PathTable} (good : WellFormed m) (represents : Represents r (store_of m).literals t table)
    (entry : ℕ) where
  pub no_place : (q : Refusal) → Refuses (read_here r packed) q → Refines (resolved entry table) r r m m (Err q)
  unfolding resolved
  no_place q e = read-stops packed _ good q e

  module _ {place : ℕ} {d : BitReader} (g : Gave r (read_here r packed) place d) where
    pub place-beyond : t.literals ≤ place → Simulates (resolved entry table) r m (fail 33 entry place) r m
    unfolding resolved
    place-beyond h =
        stops (read-on packed _ good g) (record { reason = PathIndexOutOfBounds; a = entry; b = place })
        (rw (le-ltb place (length table.paths) (omega (arith, h, represents.many))) (stays good))

    module _ (low : place < t.literals) where
      again : ReadAgain r (word (store_of m).literals place) (get_or table.paths place [])
      again = represents.found place (omega (arith, low, represents.many))

      -- l is a reader at the literal with this place
      module _ {l : BitReader} (w : SameWindow r l) (at : l.pos ≡ word (store_of m).literals place) where
        found-at : (p : ℕ) → p ≡ word (store_of m).literals place → ReadAgain l p (get_or table.paths place [])
        found-at p e = rw e (again-on w again)

        -- reading a literal again is never refused
        pub place_found : {A : Type 0} (q : Refusal) → Refuses (read_here l fstring) q → A
        place_found q e = let clash : ◌≡◌ {A = ℕ} 0 1 = cc ((found-at l.pos at).read, e) in absurd (omega (arith, clash))

        pub place-taken : {scratch : List ℕ} {n : ℕ} {e : BitReader} → TextRead l (read_here l fstring) scratch n e → AtMostEntries m entry t
            → PathOf (resolved entry table) r d m m scratch entry n (one_placed t)
        unfolding resolved
        place-taken x few =
            let same : get_or table.paths place [] ≡ x.text = cc ((found-at l.pos at).read, x.gave.read) in
            let after = represents-on (gave-window g) refl represents in
            record {
              text = x.text;
              table = record { paths = table.paths; literals = table.literals; indexed = table.indexed + 1; resolved = table.resolved + 1 };
              simulates =
                  then (read-on packed _ good g)
                  (rw (lt-ltb place (length table.paths) (omega (arith, low, represents.many)), same) (stays good));
              here = x.here;
              fits = x.fits;
              is_text = text-is-text x.gave;
              represents = record {
                many = after.many;
                literals = after.literals;
                indexed = ap (λ (k : ℕ). k + 1) after.indexed;
                resolved = ap (λ (k : ℕ). k + 1) after.resolved;
                found = after.found;
              };
              few = record {
                literals = omega (arith, few.literals);
                indexed = omega (arith, few.indexed);
                resolved = omega (arith, few.resolved);
                allowed = few.allowed;
              };
            }

-- ---- the kind byte

-- the kind byte, then the path of that kind
abbrev pub path_at : ℕ → PathTable → Parser (List ℕ × PathTable)
path_at entry table = read byte >>= λ kind. path_of_kind by_table entry table kind

module _ {r : BitReader} {m : List ℕ} (good : WellFormed m) (entry : ℕ) (table : PathTable) where
  pub no_kind : (q : Refusal) → Refuses (read_here r byte) q → Refines (path_at entry table) r r m m (Err q)
  no_kind q e = read-stops byte _ good q e

  module _ {kind : ℕ} {d : BitReader} (g : Gave r (read_here r byte) kind d) where
    pub kind-simulates : Simulates (path_at entry table) r m (path_of_kind by_table entry table kind) d m
    kind-simulates = read-on byte (path_of_kind by_table entry table) good g

    pub place-kind : kind ≡ 0 → Simulates (path_at entry table) r m (resolved entry table) d m
    unfolding path_of_kind by_table
    place-kind e = then kind-simulates (rw (eq-eqb kind 0 e) (stays good))

    pub literal-kind : kind ≡ 1 → Simulates (path_at entry table) r m (literal table) d m
    unfolding path_of_kind by_table
    literal-kind e = then kind-simulates (rw (ne_eqb kind 0 (λ z. omega (arith, z, e)), eq-eqb kind 1 e) (stays good))

    pub bad_kind : kind ≢ 0 → kind ≢ 1 → Simulates (path_at entry table) r m (fail 32 entry kind) r m
    unfolding path_of_kind
    bad_kind z o =
        stops kind-simulates (record { reason = BadPathKind; a = entry; b = kind }) (rw (ne_eqb kind 0 z, ne_eqb kind 1 o) (stays good))

-- a path, after a part of its reader was read
pub path-on : {k k' : Parser (List ℕ × PathTable)} {r d : BitReader} {m m₁ : List ℕ} → Simulates k r m k' d m₁
    → (e : BitReader) (m' scratch : List ℕ) (entry : ℕ) (o : Result (ℕ × Paths) Refusal) → PathReads k' d e m₁ m' scratch entry o
    → PathReads k r e m m' scratch entry o
path-on g e m' scratch entry (Ok p) h = record {
  text = h.text;
  table = h.table;
  simulates = then g h.simulates;
  here = h.here;
  fits = h.fits;
  is_text = h.is_text;
  represents = h.represents;
  few = h.few;
}
path-on g e m' scratch entry (Err q) h = stops g q h

-- ---- the flags byte and the setting

-- the flags byte after the path, then the setting
abbrev pub setting : ℕ → List ℕ → ℕ → Parser (Unit {0})
setting guid path outer = read byte >>= λ flags. step (set_guid guid path outer)

-- the end of an entry is read as defined, and the stored positions are unchanged
pub record EntryEnd (guid : ℕ) (path : List ℕ) (outer : ℕ) (r d : BitReader) (m m' : List ℕ) (o : Result (Unit {0}) Refusal) : Type 0 where
  pub reads : Refines (setting guid path outer) r d m m' o
  pub literals : (store_of m').literals ≡ (store_of m).literals

module _ {r : BitReader} {m : List ℕ} (good : WellFormed m) (guid : ℕ) (path : List ℕ) (outer : ℕ) where
  pub no-flags : (q : Refusal) → Refuses (read_here r byte) q → EntryEnd guid path outer r r m m (Err q)
  no-flags q e = record { reads = read-stops byte _ good q e; literals = refl }

  module _ {flags : ℕ} {d : BitReader} (g : Gave r (read_here r byte) flags d) {m' : List ℕ} where
    pub set-taken : Taken (set_guid guid path outer (held m)) tt m m' → EntryEnd guid path outer r d m m' (Ok tt)
    set-taken h = record { reads = then (read-on byte _ good g) (taken (set_guid guid path outer) h); literals = h.holds.literals }

    pub set-refused : (q : Refusal) → NotTaken (set_guid guid path outer (held m)) q m m' → EntryEnd guid path outer r r m m' (Err q)
    set-refused q h = record {
      reads = stops (read-on byte _ good g) q (not_taken (set_guid guid path outer) good h);
      literals = ap (λ (x : List ℕ). (store_of x).literals) h.same;
    }

-- ---- one entry

-- an entry after its GUID and outer
abbrev pub guid_from : ℕ → ℕ → ℕ → PathTable → Parser PathTable
guid_from guid outer entry table = path_at entry table >>= λ p. setting guid p.0 outer >>= λ u. return p.1

module _ {r : BitReader} {m : List ℕ} (guid outer entry : ℕ) (table : PathTable) where
  pub no-path : {m' : List ℕ} (q : Refusal) → Refines (path_at entry table) r r m m' (Err q)
      → Refines (guid_from guid outer entry table) r r m m' (Err q)
  no-path q g = bind-stop _ q g

  module _ {m₁ scratch : List ℕ} {n : ℕ} {t : Paths} {d : BitReader} (p : PathOf (path_at entry table) r d m m₁ scratch entry n t)
      {m' : List ℕ} where
    pub entry-ended : {e : BitReader} → EntryEnd guid (take n scratch) outer d e m₁ m' (Ok tt)
        → GuidTo (guid_from guid outer entry table) r e m m' (entry + 1) t
    entry-ended {e} h =
        let own : Simulates (setting guid p.text outer) d m₁ (return tt) e m' = rw p.here at h.reads in
        record {
          table = p.table;
          simulates = then (bind _ p.simulates) (bind _ own);
          represents = represents-on (window-kept own) h.literals p.represents;
          few = few_on p.simulates.good own.good h.literals p.few;
        }

    pub entry-refused : (q : Refusal) → EntryEnd guid (take n scratch) outer d d m₁ m' (Err q)
        → Refines (guid_from guid outer entry table) r r m m' (Err q)
    entry-refused q h =
        let own : Refines (setting guid p.text outer) d d m₁ m' (Err q) = rw p.here at h.reads in
        stops (bind _ p.simulates) q (bind-stop _ q own)

-- the parts of an entry are those of the definition
onward : (guid outer entry : ℕ) (table : PathTable) (pos : ℕ) (l : List ℕ) (c : Content) (t : Increments)
    → guid_from guid outer entry table pos l c t
    ≡ (read byte >>= λ kind. path_of_kind by_table entry table kind >>= λ p. read byte >>= λ flags.
    step (set_guid guid p.0 outer) >>= λ u. return p.1) pos l c t
onward guid outer entry table pos l c t =
    assoc (path_of_kind by_table entry table) _ (read byte) pos l c t
    ∙ onward-same _ _ (λ kind. onward-same _ _ (λ p. assoc _ _ (read byte)) (path_of_kind by_table entry table kind)) (read byte) pos l c t

module _ {r : BitReader} {m : List ℕ} (good : WellFormed m) (entry : ℕ) (table : PathTable) where
  pub no-guid : (q : Refusal) → Refuses (read_here r packed) q → Refines (block_guid by_table entry table) r r m m (Err q)
  unfolding block_guid
  no-guid q e = read-stops packed _ good q e

  module _ {guid : ℕ} {d : BitReader} (g : Gave r (read_here r packed) guid d) where
    pub no_outer : (q : Refusal) → Refuses (read_here d packed) q → Refines (block_guid by_table entry table) r r m m (Err q)
    unfolding block_guid
    no_outer q e = stops (read-on packed _ good g) q (read-stops packed _ good q e)

    pub guid-simulates : {outer : ℕ} {e : BitReader} → Gave d (read_here d packed) outer e
        → Simulates (block_guid by_table entry table) r m (guid_from guid outer entry table) e m
    unfolding block_guid
    guid-simulates {outer} {e} h =
        then (read-on packed _ good g)
        (then (read-on packed _ good h) (alike good (λ t. sym (onward guid outer entry table e.pos (rest_of e) (held m) t))))

-- an entry, after a part of its reader was read
pub guid-on : {k k' : Parser PathTable} {r d : BitReader} {m m₁ : List ℕ} → Simulates k r m k' d m₁
    → (e : BitReader) (m' : List ℕ) (entries : ℕ) (o : Result Paths Refusal) → GuidReads k' d e m₁ m' entries o → GuidReads k r e m m' entries o
guid-on g e m' entries (Ok t) h = record { table = h.table; simulates = then g h.simulates; represents = h.represents; few = h.few }
guid-on g e m' entries (Err q) h = stops g q h

-- ---- all entries

-- the loop invariant: `entry` of n entries are read
pub record EntriesRead (n : ℕ) (r : BitReader) (m : List ℕ) (entry : ℕ) (d : BitReader) (m' : List ℕ) (t : Paths) : Type 0 where
  pub low : entry ≤ n
  pub table : PathTable
  pub simulates : Simulates (block_guids by_table n 0 no_paths) r m (block_guids by_table (n - entry) entry table) d m'
  pub represents : Represents d (store_of m').literals t table
  pub few : AtMostEntries m' entry t

pub entries_none : (n : ℕ) (r : BitReader) {m : List ℕ} (t : Paths) → WellFormed m → t.literals ≡ 0 → t.indexed ≡ 0 → t.resolved ≡ 0
    → EntriesRead n r m 0 r m t
unfolding no_paths
entries_none n r t good literals indexed resolved = record {
  low = omega arith;
  table = no_paths;
  simulates = let e : n - 0 ≡ n = omega arith in rw e (stays good);
  represents = record {
    many = literals;
    literals = literals;
    indexed = indexed;
    resolved = resolved;
    found = λ i low. absurd (omega (arith, low));
  };
  few = record { literals = omega arith; indexed = omega arith; resolved = omega arith; allowed = omega arith };
}

module _ {n : ℕ} {r : BitReader} {m : List ℕ} {entry : ℕ} {d : BitReader} {m₁ : List ℕ} {t : Paths}
    (g : EntriesRead n r m entry d m₁ t) where
  -- what the next entry requires
  pub entries-counting : {scratch : List ℕ} → 4096 ≤ length scratch → n ≤ 1000000 → entry < n → BeforeEntry d m₁ scratch entry t
  entries-counting wide few low = record {
    good = g.simulates.good;
    wide = wide;
    entries = omega (arith, few, low);
    few = g.few;
    table = g.table;
    represents = g.represents;
  }

  module _ (left : entry < n) where
    next-simulates : Simulates (block_guids by_table n 0 no_paths) r m
        (block_guid by_table entry g.table >>= block_guids by_table (n - (entry + 1)) (entry + 1)) d m₁
    unfolding block_guids
    next-simulates = let e : n - entry ≡ suc (n - (entry + 1)) = omega (arith, left) in rw e at g.simulates

    pub entries-more : {e : BitReader} {m' : List ℕ} {t' : Paths} → GuidTo (block_guid by_table entry g.table) d e m₁ m' (entry + 1) t'
        → EntriesRead n r m (entry + 1) e m' t'
    entries-more h = record {
      low = omega (arith, left);
      table = h.table;
      simulates = then next-simulates (bind _ h.simulates);
      represents = h.represents;
      few = h.few;
    }

    pub entries-refused : (q : Refusal) {m' : List ℕ} → Refines (block_guid by_table entry g.table) d d m₁ m' (Err q)
        → Refines (block_guids by_table n 0 no_paths) r r m m' (Err q)
    entries-refused q h = stops next-simulates q (bind-stop _ q h)

  pub entries-all : n ≤ entry → GuidTo (block_guids by_table n 0 no_paths) r d m m₁ n t
  unfolding block_guids
  entries-all h = record {
    table = g.table;
    simulates = let e : n - entry ≡ 0 = omega (arith, h) in rw e at g.simulates;
    represents = g.represents;
    few = let e : entry ≡ n = omega (arith, h, g.low) in rw e at g.few;
  }
