-- Contract of `texts::keep_text`: a text is written, and the book holds the same.
use Rattle.std.specs.Prelude.{◌≡◌, List, ℕ, ◌+◌, ◌≤◌, length}
use Rattle.vrf_words.specs.Words.{part}
use Rattle.vrf_table.specs.declared.TextSpan.{TextSpan}
use Rattle.vrf_store.specs.Store.{header_of, store_of}
use Rattle.vrf_store.specs.Inner.Stepped.{held, KeysKept, Stepped}

-- t is in the texts; the content, and the keys of the field rows, are unchanged
pub record TextWritten (m t m' : List ℕ) (span : TextSpan) : Type 0 where
  pub stepped : Stepped m m' (held m)
  pub within : span.at + span.len ≤ (header_of m').used
  pub long : span.len ≡ length t
  pub text : part (store_of m').texts span.at span.len ≡ t
  pub keys : KeysKept m m'
