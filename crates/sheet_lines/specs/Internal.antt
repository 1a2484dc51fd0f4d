-- What the contracts of inner functions and the proofs go by: no exported contract and no claim cites this file. Assumes nothing.
use Rattle.std.specs.Prelude.{◌≡◌, cond, List, [], ◌∷◌, ◌++◌, map, ℕ, ◌+◌, ◌*◌, ◌-◌, ◌^◌, Option, None, Some, ltb, leb, eqb, length, drop}
use Rattle.codec.specs.Bytes.{Bytes, zeros}
use Rattle.sheet_lines.specs.Reader.{LineFound, missing, found, line, Block, broken, block, rows}
use Rattle.sheet_lines.specs.declared.Line.{Line}
use Rattle.sheet_lines.specs.declared.Lines.{Lines}

-- ---- for the contracts of the code: what it keeps of the lines of a text. Of a line that is how many numbers it has, the largest, and the place where the text goes on; `summed` and `outlined` say the same of what the reader finds, and `reached` what was read before a line that is not there

-- the value of a number's digits, of which there may be none yet, with one more: the digits of `step` of specs/Reader.antt
abbrev pub longer : Option ℕ → ℕ → Option ℕ
longer None d = Some d
longer (Some v) d = cond (eqb v 0) None (cond (leb (10 ^ 16) v) None (Some (10 * v + d)))

abbrev pub bigger : ℕ → ℕ → ℕ
bigger a b = cond (ltb a b) b a

-- the largest of m and the numbers
unfoldable pub largest : ℕ → List ℕ → ℕ
largest m [] = m
largest m (x ∷ xs) = largest (bigger m x) xs

pub data Summed : Type 0 where
  bad : Summed
  sum : ℕ → ℕ → Bytes → Summed

abbrev pub summed : LineFound → Summed
summed missing = bad
summed (found xs t) = sum (length xs) (largest 0 xs) t

abbrev pub scanned : Bytes → Option Line → Summed
scanned text None = bad
scanned text (Some l) = sum l.count l.largest (drop l.next text)

pub data Outline : Type 0 where
  none : Outline
  outline : List ℕ → List ℕ → Bytes → Outline

abbrev pub outlined : Block → Outline
outlined broken = none
outlined (block rs t) = outline (map length rs) (map (largest 0) rs) t

abbrev pub seen : Bytes → Lines → Outline
seen text l = cond l.whole (outline l.counts l.largest (drop l.next text)) none

-- ---- up to a line that is not there

-- the numbers of the lines that were read, and the text after them
pub record Reached : Type 0 where
  pub numbers : List (List ℕ)
  pub rest : Bytes

abbrev pub behind : List (List ℕ) → Reached → Reached
behind rs r = record { numbers = rs ++ r.numbers; rest = r.rest }

abbrev pub further : LineFound → (Bytes → Reached) → Bytes → Reached
further missing f t = record { numbers = []; rest = t }
further (found xs u) f t = behind (xs ∷ []) (f u)

-- the lines of these keys, in order, up to the first that is not there
unfoldable pub reached : List Bytes → Bytes → Reached
reached [] t = record { numbers = []; rest = t }
reached (k ∷ ks) t = further (line k t) (reached ks) t

-- five numbers: one for each line that was read, and 0 for the others
abbrev pub filled : (List ℕ → ℕ) → List (List ℕ) → List ℕ
filled f rs = map f rs ++ zeros (5 - length rs)

-- what the scan of the lines of five keys answers: whether they are all there; and, whether they are or not, what was read up to the first that is not
pub record Scanned (ks : List Bytes) (t text : Bytes) (l : Lines) : Type 0 where
  pub told : seen text l ≡ outlined (rows ks t)
  pub counts : l.counts ≡ filled length (reached ks t).numbers
  pub tops : l.largest ≡ filled (largest 0) (reached ks t).numbers
  pub rest : drop l.next text ≡ (reached ks t).rest
