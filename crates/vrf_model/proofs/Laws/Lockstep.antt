-- Two books with the same content answer every list of calls alike: no answer depends on a counter, and the same amounts are added to the
-- counters of both. Used in Laws/LateJoin.antt.
use Rattle.std.specs.Prelude.{◌≡◌, refl, List, [], ◌∷◌, ℕ, ◌+◌, ◌-◌, ◌*◌, ◌/◌, ◌%◌, ◌^◌, ◌<◌}
use Rattle.std.proofs.Common.{sym, ap, ◌∙◌, subst, mod-lt, div-add-mod', arith}
use Rattle.std.proofs.Math.Nat.{add-mul-mod_self_right}
use Rattle.vrf_model.specs.Book.{Content, Counters, Increments, Book, stepped}
use Rattle.vrf_model.specs.Calls.{Call, Answer, run, run_book, play, answers}
use Rattle.vrf_model.specs.LateJoin.{ahead, apart}

-- ---- how far counters are apart

-- every counter is below 2^64
pub record Fit (t : Counters) : Type 0 where
  pub schema : t.schema < 2 ^ 64
  pub guid : t.guid < 2 ^ 64
  pub dropped : t.dropped < 2 ^ 64
  pub replaced : t.replaced < 2 ^ 64
  pub renamed : t.renamed < 2 ^ 64

pub stepped-fit : (a : Counters) (t : Increments) → Fit (stepped a t)
unfolding stepped
stepped-fit a t = omega arith

-- a and b are x + t and y + t less some multiples of 2^64
balance : (x y t a b q r : ℕ) → y < 2 ^ 64 → b < 2 ^ 64 → q * 2 ^ 64 + a ≡ x + t → r * 2 ^ 64 + b ≡ y + t → a + (2 ^ 64 - b) + q * 2 ^ 64 ≡ x + (2 ^ 64 - y) + r * 2 ^ 64
balance x y t a b q r hy hb ea eb = omega arith

ahead-kept : (x y t : ℕ) → y < 2 ^ 64 → ahead ((x + t) % 2 ^ 64) ((y + t) % 2 ^ 64) ≡ ahead x y
unfolding ahead
ahead-kept x y t h =
    let a : ℕ = (x + t) % 2 ^ 64 in
    let b : ℕ = (y + t) % 2 ^ 64 in
    let q : ℕ = (x + t) / 2 ^ 64 in
    let r : ℕ = (y + t) / 2 ^ 64 in
    let ea : q * 2 ^ 64 + a ≡ x + t = div-add-mod' (x + t) (2 ^ 64) in
    let eb : r * 2 ^ 64 + b ≡ y + t = div-add-mod' (y + t) (2 ^ 64) in
    sym (add-mul-mod_self_right (a + (2 ^ 64 - b)) q (2 ^ 64))
    ∙ ap (λ (n : ℕ). n % 2 ^ 64) (balance x y t a b q r h (mod-lt (y + t) (omega arith)) ea eb)
    ∙ add-mul-mod_self_right (x + (2 ^ 64 - y)) r (2 ^ 64)

-- adding t to both leaves them as far apart as before
stepped-apart : (a b : Counters) (t : Increments) → Fit b → apart (stepped a t) (stepped b t) ≡ apart a b
unfolding apart stepped
stepped-apart a b t f = rw (ahead-kept _ _ _ f.schema, ahead-kept _ _ _ f.guid, ahead-kept _ _ _ f.dropped, ahead-kept _ _ _ f.replaced, ahead-kept _ _ _ f.renamed)

-- ---- two books with the same content

-- after a list of calls on both: the same answers, the same content, and counters as far apart as before
pub record Lockstep (calls : List Call) (b b' : Book) : Type 0 where
  pub answered : answers calls b ≡ answers calls b'
  pub content : (play calls b).content ≡ (play calls b').content
  pub counters : apart (play calls b).counters (play calls b').counters ≡ apart b.counters b'.counters

lockstep-on : (calls : List Call) (c : Content) (a b : Counters) → Fit b → Lockstep calls (record { content = c; counters = a }) (record { content = c; counters = b })
unfolding play answers run_book
lockstep-on [] c a b f = record { answered = refl; content = refl; counters = refl }
lockstep-on (k ∷ ks) c a b f =
    let t : Increments = (run k c).counted in
    let r = lockstep-on ks (run k c).content (stepped a t) (stepped b t) (stepped-fit b t) in
    record {
      answered = ap (λ (l : List Answer). (run k c).answer ∷ l) r.answered;
      content = r.content;
      counters = r.counters ∙ stepped-apart a b t f;
    }

pub lockstep : (calls : List Call) (b b' : Book) → b.content ≡ b'.content → Fit b'.counters → Lockstep calls b b'
lockstep calls b b' e f = subst (λ (c : Content). Lockstep calls (record { content = c; counters = b.counters }) b') (sym e) (lockstep-on calls b'.content b.counters b'.counters f)
