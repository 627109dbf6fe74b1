-- Sequences of readers: grouping them differently gives the same, and so does replacing the second reader by an equal one.
use Rattle.std.specs.Prelude.{◌≡◌, List, ℕ}
use Rattle.std.proofs.Math.Path.{refl}
use Rattle.vrf_model.specs.Book.{Content, Increments}
use Rattle.vrf_model.specs.Parser.{Parsed, parsed, failed, Parser, bind_parsed, ◌>>=◌}

module _ {A B C : Type 0} (f : A → Parser B) (g : B → Parser C) where
  both : (x : Parsed A) → bind_parsed g (bind_parsed f x) ≡ bind_parsed (λ a. f a >>= g) x
  unfolding bind_parsed ◌>>=◌
  both (parsed a p l c t) = refl
  both (failed n a b c t) = refl

  pub assoc : (r : Parser A) (pos : ℕ) (l : List ℕ) (c : Content) (t : Increments)
      → ((r >>= f) >>= g) pos l c t ≡ (r >>= λ a. f a >>= g) pos l c t
  unfolding ◌>>=◌
  assoc r pos l c t = both (r pos l c t)

-- f and g give the same on every value
module _ {A B : Type 0} (f g : A → Parser B)
    (same : (a : A) (pos : ℕ) (l : List ℕ) (c : Content) (t : Increments) → f a pos l c t ≡ g a pos l c t) where
  each : (x : Parsed A) → bind_parsed f x ≡ bind_parsed g x
  unfolding bind_parsed
  each (parsed a p l c t) = same a p l c t
  each (failed n a b c t) = refl

  pub onward-same : (r : Parser A) (pos : ℕ) (l : List ℕ) (c : Content) (t : Increments) → (r >>= f) pos l c t ≡ (r >>= g) pos l c t
  unfolding ◌>>=◌
  onward-same r pos l c t = each (r pos l c t)
