-- Laws about `Simulates`: readings, steps, and sequences of them. Used by all laws about readers.
use Rattle.std.specs.Prelude.{◌≡◌, List, ℕ, Result, Ok, Err}
use Rattle.std.proofs.Math.Path.{refl, ap, subst}
use Rattle.std.specs.Result.{IsErrAnd}
use Rattle.std.proofs.Common.{sym, ◌∙◌}
use Rattle.vrf_bitio.specs.Reading.{Read, Reader}
use Rattle.vrf_bitio.specs.Reasons.{number}
use Rattle.vrf_bitio.specs.Answers.{rest_of, read_here, Gave, Refuses, Answers}
use Rattle.vrf_bitio.specs.declared.BitReader.{BitReader}
use Rattle.vrf_bitio.specs.declared.Refusal.{Refusal}
use Rattle.vrf_model.specs.Book.{Content, Counters, Increments, add_increments, stepped}
use Rattle.vrf_model.specs.Setting.{Step}
use Rattle.vrf_model.specs.Parser.{parsed, Parser, return, fail, bind_parsed, ◌>>=◌, parsed_read, read, parsed_step, step}
use Rattle.vrf_store.specs.Inner.WellFormed.{WellFormed}
use Rattle.vrf_store.specs.Inner.Stepped.{held}
use Rattle.vrf_store.proofs.Laws.Counters.{stepped-both}
use Rattle.vrf_cache.specs.Inner.Taken.{Taken, NotTaken}
use Rattle.vrf_reader.specs.Inner.Within.{SameWindow}
use Rattle.vrf_reader.specs.Inner.Simulates.{parser_at, Simulates, Refines}

-- ---- readers of one window

pub own-window : {r : BitReader} → SameWindow r r
own-window = record { same = refl; first = refl; count = refl }

pub gave-window : {A : Type 0} {r d : BitReader} {x : Read A} {v : A} → Gave r x v d → SameWindow r d
gave-window g = record { same = g.same; first = g.first; count = g.count }

pub window-kept : {A : Type 0} {k k' : Parser A} {r d : BitReader} {m m' : List ℕ} → Simulates k r m k' d m' → SameWindow r d
window-kept g = record { same = g.same; first = g.first; count = g.count }

pub window-then : {r d e : BitReader} → SameWindow r d → SameWindow d e → SameWindow r e
window-then v w = record { same = w.same ∙ v.same; first = w.first ∙ v.first; count = w.count ∙ v.count }

-- ---- one reading or one step

-- the memory stays as it is
still : {A : Type 0} {k k' : Parser A} {r d : BitReader} {m : List ℕ} → WellFormed m
    → ((t : Increments) → parser_at r m k t ≡ parser_at d m k' t) → SameWindow r d → Simulates k r m k' d m
still good e w = record { adds = λ t. t; simulates = e; counters = λ b t h. h; good = good; long = refl; same = w.same; first = w.first; count = w.count }

-- two readers that give the same at this place and memory
pub alike : {A : Type 0} {k k' : Parser A} {r : BitReader} {m : List ℕ} → WellFormed m
    → ((t : Increments) → parser_at r m k t ≡ parser_at r m k' t) → Simulates k r m k' r m
alike good e = still good e own-window

pub stays : {A : Type 0} {k : Parser A} {r : BitReader} {m : List ℕ} → WellFormed m → Simulates k r m k r m
stays good = alike good (λ t. refl)

-- a reading
module _ {A : Type 0} (f : Reader A) {r : BitReader} {m : List ℕ} (good : WellFormed m) where
  gave : {v : A} {d : BitReader} → Gave r (read_here r f) v d → Simulates (read f) r m (return v) d m
  unfolding read parsed_read return
  gave g = still good (λ t. ap (parsed_read (held m) t) g.read) (gave-window g)

  refused : (q : Refusal) → Refuses (read_here r f) q → Refines (read f) r r m m (Err q)
  unfolding read parsed_read fail
  refused q e = alike good (λ t. ap (parsed_read (held m) t) e)

pub answered : {A : Type 0} (f : Reader A) (r d : BitReader) {m : List ℕ} → WellFormed m → (o : Result A Refusal)
    → Answers r d (read_here r f) o → Refines (read f) r d m m o
answered f r d good (Ok v) g = gave f good g
answered f r d good (Err q) e = refused f good q e.0

-- a step
module _ {A : Type 0} (σ : Content → Step A) {r : BitReader} {m m' : List ℕ} where
  pub taken : {a : A} → Taken (σ (held m)) a m m' → Simulates (step σ) r m (return a) r m'
  unfolding step parsed_step return
  taken {a} h = record {
    adds = λ t. add_increments t h.counted;
    simulates = λ t.
        ap (parsed_step r.pos (rest_of r) (held m) t) h.step
        ∙ ap (λ (x : Content). parsed a r.pos (rest_of r) x (add_increments t h.counted)) (sym h.holds.content);
    counters = λ b t e. h.holds.counters ∙ ap (λ (x : Counters). stepped x h.counted) e ∙ stepped-both b t h.counted;
    good = h.holds.good;
    long = h.holds.long;
    same = refl;
    first = refl;
    count = refl;
  }

  pub not_taken : WellFormed m → {q : Refusal} → NotTaken (σ (held m)) q m m' → Refines (step σ) r r m m' (Err q)
  unfolding step parsed_step fail
  not_taken good {q} h =
      subst (λ (x : List ℕ). Refines (step σ) r r m x (Err q)) (sym h.same)
      (alike good (λ t. ap (parsed_step r.pos (rest_of r) (held m) t) h.step))

-- ---- sequences

pub then : {A : Type 0} {k k' k'' : Parser A} {r r' r'' : BitReader} {m m' m'' : List ℕ}
    → Simulates k r m k' r' m' → Simulates k' r' m' k'' r'' m'' → Simulates k r m k'' r'' m''
then g h = record {
  adds = λ t. h.adds (g.adds t);
  simulates = λ t. g.simulates t ∙ h.simulates (g.adds t);
  counters = λ b t e. h.counters b (g.adds t) (g.counters b t e);
  good = h.good;
  long = h.long ∙ g.long;
  same = h.same ∙ g.same;
  first = h.first ∙ g.first;
  count = h.count ∙ g.count;
}

-- if l and l' give the same with the counters that g adds, then l is simulated with the memory of g
pub across : {A B : Type 0} {k k' : Parser A} {l l' : Parser B} {i e r d : BitReader} {m m' : List ℕ} (g : Simulates k i m k' e m')
    → ((t : Increments) → parser_at r m l t ≡ parser_at d m' l' (g.adds t)) → SameWindow r d → Simulates l r m l' d m'
across g e w = record { adds = g.adds; simulates = e; counters = g.counters; good = g.good; long = g.long; same = w.same; first = w.first; count = w.count }

module _ {A B : Type 0} {k : Parser A} (f : A → Parser B) {r d : BitReader} {m m' : List ℕ} where
  -- the first of two readers in sequence
  under : {k' : Parser A} → Simulates k r m k' d m' → Simulates (k >>= f) r m (k' >>= f) d m'
  unfolding ◌>>=◌
  under g = across g (λ t. ap (bind_parsed f) (g.simulates t)) (window-kept g)

  pub bind : {v : A} → Simulates k r m (return v) d m' → Simulates (k >>= f) r m (f v) d m'
  unfolding return ◌>>=◌ bind_parsed
  bind g = under g

  pub bind-stop : (q : Refusal) → Simulates k r m (fail (number q.reason) q.a q.b) d m'
      → Simulates (k >>= f) r m (fail (number q.reason) q.a q.b) d m'
  unfolding fail ◌>>=◌ bind_parsed
  bind-stop q g = under g

-- a reading, then the reader that follows it
module _ {A B : Type 0} (f : Reader A) (g : A → Parser B) {r : BitReader} {m : List ℕ} (good : WellFormed m) where
  pub read-on : {v : A} {d : BitReader} → Gave r (read_here r f) v d → Simulates (read f >>= g) r m (g v) d m
  read-on h = bind g (gave f good h)

  pub read-stops : (q : Refusal) → Refuses (read_here r f) q → Refines (read f >>= g) r r m m (Err q)
  read-stops q e = bind-stop g q (refused f good q e)

-- how a reader ends after a part of it was read
module _ {A : Type 0} {k k' : Parser A} {r d : BitReader} {m m' : List ℕ} (g : Simulates k r m k' d m') where
  pub stops : {m'' : List ℕ} (q : Refusal) → Refines k' d d m' m'' (Err q) → Refines k r r m m'' (Err q)
  unfolding fail
  stops q h = across (then g h) (then g h).simulates own-window

  pub reads : (d' : BitReader) (m'' : List ℕ) (o : Result A Refusal) → Refines k' d d' m' m'' o → Refines k r d' m m'' o
  reads d' m'' (Ok v) h = then g h
  reads d' m'' (Err q) h = stops q h

-- a reader that answers with `?` what a call refused
pub passed-on : {A : Type 0} {k : Parser A} {r : BitReader} {m m' : List ℕ} (d : BitReader) (q : Refusal) (o : Result A Refusal)
    → IsErrAnd o (λ e. e ≡ q) → Refines k r r m m' (Err q) → Refines k r d m m' o
passed-on {k = k} {r} {m} {m'} d q (Err e) same h = subst (λ (x : Refusal). Refines k r r m m' (Err x)) (sym same) h
passed-on d q (Ok v) none h = absurd none
