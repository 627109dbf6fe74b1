-- The head, the end and the whole of a block: one law for each path through each part of it. Used by the proofs of `block`.
use Rattle.std.specs.Prelude.{◌≡◌, ◌≢◌, List, ℕ, ◌+◌, ◌/◌, ◌≤◌, ◌<◌, Result, Ok, Err}
use Rattle.std.proofs.Math.Path.{refl}
use Rattle.std.proofs.Common.{lt-ltb, le-ltb, eq-eqb, ne_eqb}
use Rattle.vrf_bitio.specs.Reading.{position}
use Rattle.vrf_bitio.specs.Reasons.{number}
use Rattle.vrf_bitio.specs.Number.{word32}
use Rattle.vrf_bitio.specs.Answers.{read_here, Gave, Refuses}
use Rattle.vrf_bitio.specs.declared.BitReader.{BitReader}
use Rattle.vrf_bitio.specs.declared.Reason.TheVariants.{ReservedWordSet, CountOverflow, FrameOffsetMismatch}
use Rattle.vrf_bitio.specs.declared.Refusal.{Refusal}
use Rattle.vrf_model.specs.Parser.{Parser, return, fail, ◌>>=◌, read, sum_from}
use Rattle.vrf_model.specs.Block.{BlockCounts, PathTable, no_paths, by_table, zero_word, count_up_to, block_guids, block_group, block_end, block}
use Rattle.vrf_model.specs.declared.CheckpointTables.{CheckpointTables}
use Rattle.vrf_store.specs.Inner.WellFormed.{WellFormed}
use Rattle.vrf_reader.specs.Inner.Simulates.{Simulates, Refines, RefinesReading}
use Rattle.vrf_reader.proofs.Laws.Simulates.{answered, stays, then, bind, bind-stop, read-on, read-stops, stops}
use Rattle.vrf_checkpoint.specs.Inner.Guids.{Represents}
use Rattle.vrf_checkpoint.specs.Inner.Block.{BlockReads}
use Rattle.vrf_checkpoint.specs.declared.guids.Paths.{Paths}

-- ---- the parts of `block`, from a point in it to its end

-- the end byte, then the seven counts
abbrev pub end_from : ℕ → ℕ → PathTable → ℕ → ℕ → Parser BlockCounts
end_from w guids table groups fields =
    block_end w >>= λ frame.
    return (record {
      guids = guids;
      groups = groups;
      fields = fields;
      frame = frame;
      indexed = table.indexed;
      literals = table.literals;
      resolved = table.resolved;
    })

-- the groups with their count, then the end
abbrev pub groups_from : ℕ → ℕ → PathTable → Parser BlockCounts
groups_from w guids table =
    count_up_to 2 100000 >>= λ groups. sum_from groups 0 (λ _. block_group) >>= λ fields. end_from w guids table groups fields

-- the GUIDs, then the groups and the end
abbrev pub guids_from : ℕ → ℕ → Parser BlockCounts
guids_from w guids = block_guids by_table guids 0 no_paths >>= λ table. groups_from w guids table

-- the three zero words, then k
abbrev pub zeros_then : Parser BlockCounts → Parser BlockCounts
zeros_then k = zero_word 4 >>= λ z4. zero_word 8 >>= λ z8. zero_word 12 >>= λ z12. k

-- `Simulates` for every well-formed memory, which is left unchanged
pub record SimulatesRest (k : Parser BlockCounts) (r : BitReader) (k' : Parser BlockCounts) (d : BitReader) : Type 0 where
  pub simulates : (m : List ℕ) → WellFormed m → Simulates k r m k' d m

-- the three zero words are read, whatever k follows them
abbrev pub ZerosRead : BitReader → BitReader → Result (Unit {0}) Refusal → Type 0
ZerosRead r d (Ok u) = (k : Parser BlockCounts) → SimulatesRest (zeros_then k) r k d
ZerosRead r d (Err q) = (k : Parser BlockCounts) → SimulatesRest (zeros_then k) r (fail (number q.reason) q.a q.b) r

-- ---- words

module _ {r d : BitReader} {w : ℕ} (g : Gave r (read_here r word32) w d) where
  pub zero-set : (byte : ℕ) → w ≢ 0 → {e : BitReader} → RefinesReading (zero_word byte) r e (Err (record { reason = ReservedWordSet; a = byte; b = w }))
  unfolding zero_word
  zero-set byte h = record {
    reads = λ m good.
        stops (read-on word32 _ good g) (record { reason = ReservedWordSet; a = byte; b = w }) (rw (ne_eqb w 0 h) (stays good));
  }

  pub zero-read : (byte : ℕ) → w ≡ 0 → RefinesReading (zero_word byte) r d (Ok tt)
  unfolding zero_word
  zero-read byte h = record { reads = λ m good. then (read-on word32 _ good g) (rw (eq-eqb w 0 h) (stays good)) }

  pub count-over : (which top : ℕ) → top < w → {e : BitReader}
      → RefinesReading (count_up_to which top) r e (Err (record { reason = CountOverflow; a = which; b = w }))
  unfolding count_up_to
  count-over which top h = record {
    reads = λ m good.
        stops (read-on word32 _ good g) (record { reason = CountOverflow; a = which; b = w }) (rw (lt-ltb top w h) (stays good));
  }

  pub count-read : (which top : ℕ) → w ≤ top → RefinesReading (count_up_to which top) r d (Ok w)
  unfolding count_up_to
  count-read which top h = record { reads = λ m good. then (read-on word32 _ good g) (rw (le-ltb top w h) (stays good)) }

module _ {r : BitReader} (q : Refusal) (e : Refuses (read_here r word32) q) where
  pub zero-refused : (byte : ℕ) {d : BitReader} → RefinesReading (zero_word byte) r d (Err q)
  unfolding zero_word
  zero-refused byte = record { reads = λ m good. read-stops word32 _ good q e }

  pub count-refused : (which top : ℕ) {d : BitReader} → RefinesReading (count_up_to which top) r d (Err q)
  unfolding count_up_to
  count-refused which top = record { reads = λ m good. read-stops word32 _ good q e }

  pub head-refused : SimulatesRest (block by_table) r (fail (number q.reason) q.a q.b) r
  unfolding block
  head-refused = record { simulates = λ m good. read-stops word32 _ good q e }

-- ---- the head

module _ {r : BitReader} where
  pub zeros-stop : (q : Refusal) {d : BitReader} → RefinesReading (zero_word 4) r d (Err q) → ZerosRead r d (Err q)
  zeros-stop q h k = record { simulates = λ m good. bind-stop _ q (h.reads m good) }

  module _ {d : BitReader} (h : RefinesReading (zero_word 4) r d (Ok tt)) where
    pub zeros-stop-2 : (q : Refusal) {e : BitReader} → RefinesReading (zero_word 8) d e (Err q) → ZerosRead r e (Err q)
    zeros-stop-2 q i k = record { simulates = λ m good. stops (bind _ (h.reads m good)) q (bind-stop _ q (i.reads m good)) }

    pub zeros-read : {e : BitReader} → RefinesReading (zero_word 8) d e (Ok tt) → {f : BitReader} (o : Result (Unit {0}) Refusal)
        → RefinesReading (zero_word 12) e f o → ZerosRead r f o
    zeros-read i (Ok u) j = λ k. record {
      simulates = λ m good. then (bind _ (h.reads m good)) (then (bind _ (i.reads m good)) (bind _ (j.reads m good)));
    }
    zeros-read i (Err q) j = λ k. record {
      simulates = λ m good. stops (then (bind _ (h.reads m good)) (bind _ (i.reads m good))) q (bind-stop _ q (j.reads m good));
    }

module _ {r d : BitReader} {w : ℕ} (g : Gave r (read_here r word32) w d) where
  abbrev following : ℕ → Parser BlockCounts
  following w = count_up_to 1 1000000 >>= λ guids. guids_from w guids

  first : SimulatesRest (block by_table) r (zeros_then (following w)) d
  unfolding block
  first = record { simulates = λ m good. read-on word32 _ good g }

  pub head-not-zero : (q : Refusal) → ZerosRead d d (Err q) → SimulatesRest (block by_table) r (fail (number q.reason) q.a q.b) r
  head-not-zero q h = record { simulates = λ m good. stops (first.simulates m good) q ((h (following w)).simulates m good) }

  module _ {e : BitReader} (h : ZerosRead d e (Ok tt)) where
    pub head-no-count : (q : Refusal) {f : BitReader} → RefinesReading (count_up_to 1 1000000) e f (Err q)
        → SimulatesRest (block by_table) r (fail (number q.reason) q.a q.b) r
    head-no-count q i = record {
      simulates = λ m good. stops (then (first.simulates m good) ((h (following w)).simulates m good)) q (bind-stop _ q (i.reads m good));
    }

    pub head_read : {f : BitReader} {guids : ℕ} → RefinesReading (count_up_to 1 1000000) e f (Ok guids)
        → SimulatesRest (block by_table) r (guids_from w guids) f
    head_read i = record {
      simulates = λ m good. then (first.simulates m good) (then ((h (following w)).simulates m good) (bind _ (i.reads m good)));
    }

-- ---- the end

module _ (r : BitReader) (w : ℕ) where
  here : (m : List ℕ) → WellFormed m → Simulates (read position) r m (return r.pos) r m
  unfolding position
  here m good = answered position r r good (Ok r.pos) (record { read = refl; same = refl; first = refl; count = refl })

  pub end-missed : r.pos / 8 ≢ w + 8 → {d : BitReader}
      → RefinesReading (block_end w) r d (Err (record { reason = FrameOffsetMismatch; a = r.pos / 8; b = w + 8 }))
  unfolding block_end
  end-missed h = record {
    reads = λ m good.
        stops (bind _ (here m good)) (record { reason = FrameOffsetMismatch; a = r.pos / 8; b = w + 8 })
        (rw (ne_eqb (r.pos / 8) (w + 8) h) (stays good));
  }

  pub end-met : r.pos / 8 ≡ w + 8 → RefinesReading (block_end w) r r (Ok (r.pos / 8))
  unfolding block_end
  end-met h = record { reads = λ m good. then (bind _ (here m good)) (rw (eq-eqb (r.pos / 8) (w + 8) h) (stays good)) }

-- ---- what follows the GUIDs

module _ (w guids : ℕ) (table : PathTable) {r : BitReader} {m : List ℕ} (good : WellFormed m) where
  pub rest-no-count : (q : Refusal) {d : BitReader} → RefinesReading (count_up_to 2 100000) r d (Err q)
      → Refines (groups_from w guids table) r r m m (Err q)
  rest-no-count q h = bind-stop _ q (h.reads m good)

  module _ {groups : ℕ} {d : BitReader} (h : RefinesReading (count_up_to 2 100000) r d (Ok groups)) {m' : List ℕ} where
    pub rest-no-groups : (q : Refusal) → Refines (sum_from groups 0 (λ _. block_group)) d d m m' (Err q)
        → Refines (groups_from w guids table) r r m m' (Err q)
    rest-no-groups q g = stops (bind _ (h.reads m good)) q (bind-stop _ q g)

    module _ (fields : ℕ) {e : BitReader} (g : Simulates (sum_from groups 0 (λ _. block_group)) d m (return fields) e m') where
      counted : Simulates (groups_from w guids table) r m (end_from w guids table groups fields) e m'
      counted = then (bind _ (h.reads m good)) (bind _ g)

      pub rest-no-end : (q : Refusal) {f : BitReader} → RefinesReading (block_end w) e f (Err q)
          → Refines (groups_from w guids table) r r m m' (Err q)
      rest-no-end q i = stops counted q (bind-stop _ q (i.reads m' g.good))

      pub rest_read : {frame : ℕ} {f : BitReader} → RefinesReading (block_end w) e f (Ok frame)
          → {t : Paths} {b : BitReader} {l : List ℕ} → Represents b l t table
          → BlockReads (groups_from w guids table) r f m m' (Ok (record {
            guid_count = guids;
            group_count = groups;
            exported_fields = fields;
            frame_offset = frame;
            indexed_paths = t.indexed;
            literal_paths = t.literals;
            resolved_path_indices = t.resolved;
          }))
      rest_read i z = rw (z.literals, z.indexed, z.resolved) (then counted (bind _ (i.reads m' g.good)))

-- ---- the whole block

pub block-then : {k k' : Parser BlockCounts} {r d : BitReader} {m m' : List ℕ} → Simulates k r m k' d m'
    → (e : BitReader) (m'' : List ℕ) (o : Result CheckpointTables Refusal) → BlockReads k' d e m' m'' o → BlockReads k r e m m'' o
block-then g e m'' (Ok t) h = then g h
block-then g e m'' (Err q) h = stops g q h

module _ {r d : BitReader} (w n : ℕ) (h : SimulatesRest (block by_table) r (guids_from w n) d) {m m' : List ℕ} (good : WellFormed m) where
  pub block-no-guids : (q : Refusal) → Refines (block_guids by_table n 0 no_paths) d d m m' (Err q) → Refines (block by_table) r r m m' (Err q)
  block-no-guids q g = stops (h.simulates m good) q (bind-stop _ q g)

  pub block-guids : (table : PathTable) {e : BitReader} → Simulates (block_guids by_table n 0 no_paths) d m (return table) e m'
      → Simulates (block by_table) r m (groups_from w n table) e m'
  block-guids table g = then (h.simulates m good) (bind _ g)
