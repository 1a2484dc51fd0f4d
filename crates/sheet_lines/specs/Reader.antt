-- Document 01, "Sheet": the reader of lines, byte by byte. It undoes `lines` of specs/Form.antt and finds no other lines. Assumes nothing.
use Rattle.std.specs.Prelude.{cond, List, [], ◌∷◌, ◌++◌, ℕ, ◌+◌, ◌*◌, ◌-◌, ◌^◌, ltb, leb, eqb}
use Rattle.codec.specs.Bytes.{Bytes}

-- a digit's value; 10 for any other byte
unfoldable pub digit : ℕ → ℕ
digit c = cond (ltb c 48) 10 (cond (ltb 57 c) 10 (c - 48))

-- the place in a line's numbers: before a number's first digit, or in a number, at the value of its digits so far
pub data Place : Type 0 where
  fresh : Place
  within : ℕ → Place

-- what stands at the head of a text: no line of the kind, or a line of these numbers, and the text after it
pub data LineFound : Type 0 where
  missing : LineFound
  found : List ℕ → Bytes → LineFound

-- what the next byte makes of a place: no such line, on to another place, or the end of the line; with the numbers read
pub data Transition : Type 0 where
  stop : Transition
  on : List ℕ → Place → Transition
  done : List ℕ → Transition

-- a digit may follow a number that is not 0 (no leading zero) and is below 10^16 (17 digits at most); a comma or LF may follow any number
unfoldable pub step : List ℕ → Place → ℕ → Transition
step xs fresh c = cond (ltb (digit c) 10) (on xs (within (digit c))) stop
step xs (within v) c =
    cond (ltb (digit c) 10)
    (cond (eqb v 0) stop (cond (leb (10 ^ 16) v) stop (on xs (within (10 * v + digit c)))))
    (cond (eqb c 44) (on (xs ++ v ∷ []) fresh)
    (cond (eqb c 10) (done (xs ++ v ∷ []))
    stop))

abbrev pub follow : Transition → (List ℕ → Place → LineFound) → Bytes → LineFound
follow stop f t = missing
follow (on xs p) f t = f xs p
follow (done xs) f t = found xs t

-- numbers between commas up to LF, after the numbers xs
unfoldable pub values : List ℕ → Place → Bytes → LineFound
values xs p [] = missing
values xs p (c ∷ t) = follow (step xs p c) (λ ys q. values ys q t) t

-- a line: the key, then the numbers
unfoldable pub line : Bytes → Bytes → LineFound
line [] t = values [] fresh t
line (k ∷ ks) [] = missing
line (k ∷ ks) (c ∷ t) = cond (eqb c k) (line ks t) missing

-- lines one after the other: their numbers, and the text after them
pub data Block : Type 0 where
  broken : Block
  block : List (List ℕ) → Bytes → Block

abbrev pub preceded_by : List (List ℕ) → Block → Block
preceded_by rs broken = broken
preceded_by rs (block ss t) = block (rs ++ ss) t

abbrev pub onward : LineFound → (Bytes → Block) → Block
onward missing f = broken
onward (found xs t) f = preceded_by (xs ∷ []) (f t)

-- the lines of these keys, in order
unfoldable pub rows : List Bytes → Bytes → Block
rows [] t = block [] t
rows (k ∷ ks) t = onward (line k t) (rows ks)
