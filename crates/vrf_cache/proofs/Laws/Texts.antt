-- `keep_text`: space is made and the text appended; the book holds the same. Used by each call that writes a text.
use Rattle.std.specs.Prelude.{refl, List, ℕ}
use Rattle.std.proofs.Common.{ap, ◌∙◌, arith}
use Rattle.vrf_text.specs.Utf8.{utf8, utf8_from}
use Rattle.vrf_text.specs.Text.{IsText}
use Rattle.vrf_words.specs.Words.{part}
use Rattle.vrf_table.specs.Table.{key}
use Rattle.vrf_table.specs.declared.TextSpan.{TextSpan}
use Rattle.vrf_store.specs.Store.{Store, header_of, store_of}
use Rattle.vrf_store.specs.Inner.Memory.{TextPlaced}
use Rattle.vrf_store.specs.Inner.Texts.{Appended, SpaceMade}
use Rattle.vrf_cache.specs.Inner.Texts.{TextWritten}
use Rattle.vrf_cache.proofs.Laws.Taken.{same_then}

pub put-placed : {m t m' : List ℕ} {span : TextSpan} → TextWritten m t m' span → IsText t → TextPlaced (header_of m').used (store_of m').texts span.at span.len
put-placed p is = record { within = p.within; is_text = rw p.text is }

-- space is made, then the text is appended
pub put_written : {m m₁ m₂ t : List ℕ} {n : ℕ} {span : TextSpan} → SpaceMade m m₁ n → Appended m₁ t m₂ span → TextWritten m t m₂ span
put_written r w = record {
  stepped = same_then r.stepped w.stepped;
  within = omega (arith, w.used);
  long = w.long;
  text = w.text;
  keys = λ e h. ap (λ (s : Store). key s.field_rows e) w.store ∙ r.keys e h;
}

-- the empty text can be at position 0
pub none-placed : (used : ℕ) (x : List ℕ) → TextPlaced used x 0 0
unfolding part utf8 utf8_from
none-placed used x = record { within = omega arith; is_text = record { valid = refl; short = omega arith } }
