-- Each contract of this crate determines the answer, so no wrong program satisfies one. The contracts of `same`, `has_path_separator`,
-- `left`, `key_len`, `key_byte`, `is_key`, `has_key` and `Stems::new` are equations. The others have a theorem here.
use Rattle.std.specs.Prelude.{◌≡◌, refl, List, ◌++◌, ℕ, ◌+◌, ◌-◌, ◌≤◌, length, take, drop, Some, None}
use Rattle.std.specs.Prelude.{Option as Maybe}
use Rattle.std.proofs.Common.{sym, ap, ◌∙◌, arith, length-append, length-drop, length-take-le}
use Rattle.std.proofs.Math.Option.{Option}
use Rattle.vrf_bitio.proofs.Laws.Cases.{clash}
use Rattle.vrf_path.specs.Toggle.{class_net_cache}
use Rattle.vrf_path.specs.Answers.{Front, KeyAnswer, LeafAnswer, ToggleAnswer, rule_at, StemAnswer}
use Rattle.vrf_path.specs.declared.Key.{Key}
use Rattle.vrf_path.specs.declared.Stem.{Stem}
use Rattle.vrf_path.specs.declared.Toggle.{Toggle}
use Rattle.vrf_path.specs.declared.Toggle.TheVariants.{Stripped, Appended}

-- the first n bytes of a text determine n
fronts : (t : List ℕ) {n m : ℕ} → n ≤ length t → m ≤ length t → take n t ≡ take m t → n ≡ m
fronts t {n} {m} hn hm e = sym (length-take-le n t hn) ∙ ap length e ∙ length-take-le m t hm

-- `class_base`, `leaf_base`
pub front-determined : (s t : List ℕ) {n m : ℕ} → Front s t n → Front s t m → n ≡ m
front-determined s t a b = fronts t a.1 b.1 (a.0 ∙ sym b.0)

-- `leaf_at`
pub leaf-determined : (t : List ℕ) (r q : Maybe ℕ) → LeafAnswer t r → LeafAnswer t q → r ≡ q
leaf-determined t (Some i) (Some j) a b =
    let rest : drop i t ≡ drop j t = cc (a.0, b.0) in
    let long : length t - i ≡ length t - j = sym (length-drop i t) ∙ ap length rest ∙ length-drop j t in
    ap Some (omega (arith, long, a.1, b.1))
leaf-determined t (Some i) None a b = clash (cc (a.0, b))
leaf-determined t None (Some j) a b = clash (cc (a, b.0))
leaf-determined t None None a b = refl

-- a key with the suffix appended is not a front part of the key
longer : (t : List ℕ) {n : ℕ} → n ≤ length t → take n t ≡ t ++ class_net_cache → ⊥
unfolding class_net_cache
longer t {n} h e =
    let long : n ≡ length t + 14 = sym (length-take-le n t h) ∙ ap length e ∙ length-append t class_net_cache in
    omega (arith, long)

-- `toggle_class_net_cache`
pub toggle-determined : (t : List ℕ) (r q : Maybe Toggle) → ToggleAnswer t r → ToggleAnswer t q → r ≡ q
toggle-determined t (Some (Stripped n)) (Some (Stripped m)) a b = ap (λ (k : ℕ). Some (Stripped k)) (fronts t a.1 b.1 (cc (a.0, b.0)))
toggle-determined t (Some (Stripped n)) (Some Appended) a b = absurd (longer t a.1 (cc (a.0, b)))
toggle-determined t (Some (Stripped n)) None a b = clash (cc (a.0, b))
toggle-determined t (Some Appended) (Some (Stripped m)) a b = absurd (longer t b.1 (cc (a, b.0)))
toggle-determined t (Some Appended) (Some Appended) a b = refl
toggle-determined t (Some Appended) None a b = clash (cc (a, b))
toggle-determined t None (Some (Stripped m)) a b = clash (cc (a, b.0))
toggle-determined t None (Some Appended) a b = clash (cc (a, b))
toggle-determined t None None a b = refl

-- `default_object_alias`, `core_alias`
pub key-determined : {t : List ℕ} {alias : List ℕ → Option (List ℕ)} {key : List ℕ → Maybe Key} {r q : Maybe Key} → KeyAnswer t alias key r → KeyAnswer t alias key q → r ≡ q
key-determined a b = a.made ∙ sym b.made

-- the steps of `Stems`
pub stem-determined : (name : List ℕ) {l : List (List ℕ)} (s r : Maybe Stem) → StemAnswer name l s → StemAnswer name l r → s ≡ r
stem-determined name (Some s) (Some r) a b =
    let size : s.len ≡ r.len = fronts name a.within b.within (cc (a.stems, b.stems)) in
    let rule : s.phase ≡ r.phase = a.rule ∙ ap (rule_at name) size ∙ sym b.rule in
    rw (size, rule)
stem-determined name (Some s) None a b = clash (cc (a.stems, b.stems))
stem-determined name None (Some r) a b = clash (cc (a.stems, b.stems))
stem-determined name None None a b = refl
