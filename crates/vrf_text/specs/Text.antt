-- Document 01, section Text: text on the wire, as it is read and as the writer sends it, and the checks on callers' text.
use Rattle.std.specs.Prelude.{true, cond, ◌||◌, List, [], ◌∷◌, ◌++◌, ◌≡◌, ℕ, ◌+◌, ◌-◌, ◌*◌, ◌^◌, ◌≤◌, ltb, eqb, length, take, drop}
use Rattle.std.proofs.Math.Option.{Option, none, some}
use Rattle.vrf_bitio.specs.Reading.{ok, refused, Reader, return, position, ◌>>=◌}
use Rattle.vrf_bitio.specs.Number.{word32, encode_word32}
use Rattle.vrf_text.specs.Utf8.{utf8}
use Rattle.vrf_text.specs.Utf16.{units, units_to_utf8}

-- a text that may be held: valid UTF-8 of at most 4,096 bytes
pub record IsText (t : List ℕ) : Type 0 where
  pub valid : utf8 t ≡ true
  pub short : length t ≤ 4096

-- ---- reading

-- n bytes of the text at `start` whose length word is w. 13: more than 1,048,576 bytes, or more than remain.
unfoldable pub text_bytes : ℕ → ℕ → ℕ → Reader (List ℕ)
text_bytes start w n pos l = cond (ltb 1048576 n || ltb (length l) n) (refused 13 start w) (ok (take n l) (pos + 8 * n) (drop n l))

-- one final zero dropped: a byte of UTF-8 or a unit of UTF-16
unfoldable pub drop_zero : List ℕ → List ℕ
drop_zero [] = []
drop_zero (x ∷ []) = cond (eqb x 0) [] (x ∷ [])
drop_zero (x ∷ y ∷ l) = x ∷ drop_zero (y ∷ l)

-- bytes that should be UTF-8, if they are
unfoldable pub as_utf8 : List ℕ → Option (List ℕ)
as_utf8 t = cond (utf8 t) (some t) none

-- the text at `start`, as UTF-8. 14: bad text. Then 41: more than 4,096 bytes.
unfoldable pub checked : ℕ → Option (List ℕ) → Reader (List ℕ)
checked start none pos l = refused 14 start 0
checked start (some t) pos l = cond (ltb 4096 (length t)) (refused 41 (length t) 0) (ok t pos l)

-- a text of n bytes of UTF-8
unfoldable pub text8 : ℕ → ℕ → ℕ → Reader (List ℕ)
text8 start w n = do
  b ← text_bytes start w n
  checked start (as_utf8 (drop_zero b))

-- a text of n units of little-endian UTF-16
unfoldable pub text16 : ℕ → ℕ → ℕ → Reader (List ℕ)
text16 start w n = do
  b ← text_bytes start w (2 * n)
  checked start (units_to_utf8 (drop_zero (units b)))

-- the text at `start` after its length word w. As a signed number, 0 means empty, above 0 bytes, below 0 units.
unfoldable pub text_of : ℕ → ℕ → Reader (List ℕ)
text_of start w =
    cond (eqb w 0) (return [])
    (cond (ltb w (2 ^ 31)) (text8 start w w)
    (text16 start w (2 ^ 32 - w)))

unfoldable pub fstring : Reader (List ℕ)
fstring = do
  start ← position
  w ← word32
  text_of start w

-- the text t for a target of m bytes. 15: the target is too short.
unfoldable pub into_target : ℕ → List ℕ → Reader (List ℕ)
into_target m t pos l = cond (ltb m (length t)) (refused 15 (8 * length t) (8 * m)) (ok t pos l)

-- a text, read into a target of m bytes
unfoldable pub fstring_into : ℕ → Reader (List ℕ)
fstring_into m = do
  t ← fstring
  into_target m t

-- ---- writing

-- empty is sent as 0, any other text as UTF-8 plus a zero byte, which the length counts
unfoldable pub encode_text : List ℕ → List ℕ
encode_text [] = encode_word32 0
encode_text (b ∷ t) = encode_word32 (length (b ∷ t) + 1) ++ ((b ∷ t) ++ (0 ∷ []))

-- ---- callers' text

pub data CallerText : Type 0 where
  accepted : CallerText
  refusal : ℕ → ℕ → ℕ → CallerText

-- 40: not UTF-8. Then 41: more than 4,096 bytes.
unfoldable pub caller_text : List ℕ → CallerText
caller_text t =
    cond (utf8 t)
    (cond (ltb 4096 (length t)) (refusal 41 (length t) 0) accepted)
    (refusal 40 0 0)
