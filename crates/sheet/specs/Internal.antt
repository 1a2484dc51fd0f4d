-- What the contracts of inner functions and the proofs go by: no exported contract and no claim cites this file. Assumes nothing.
use Rattle.std.specs.Prelude.{◌≡◌, true, false, cond, ◌&&◌, List, [], ℕ, ◌+◌, ◌*◌, ◌≤◌, eqb, length}
use Rattle.codec.specs.Bytes.{Bytes, words, put}
use Rattle.codec.specs.Lists.{every, all_below}
use Rattle.sheet_lines.specs.Reader.{LineFound, missing, found}
use Rattle.sheet.specs.Reader.{formed, sheet_of}
use Rattle.sheet_numbers.specs.Rules.{outside, unsound}
use Rattle.sheet.specs.Sheet.{unfit, reading, polynomials, Reading, Taken, Refused}
use Rattle.sheet_numbers.specs.declared.Numbers.{Numbers}

-- ---- for the contracts of the crate's inner functions: what is put out of the lines of a text, and what is said of it by what the code keeps of its lines

-- a line's numbers, and the text after it
abbrev pub numbers_in : LineFound → List ℕ
numbers_in missing = []
numbers_in (found xs t) = xs

abbrev pub rest : LineFound → Bytes
rest missing = []
rest (found xs t) = t

-- the line is there, and its numbers fit into d from an index on
pub record Ready (f : LineFound) (from : ℕ) (d : Bytes) : Type 0 where
  pub there : f ≡ missing → ⊥
  pub room : from + 8 * length (numbers_in f) ≤ length d

-- they were put there, and the text after the line is t
pub record Writes (f : LineFound) (from : ℕ) (d : Bytes) (t out : Bytes) : Type 0 where
  pub wrote : out ≡ put d from (words (numbers_in f))
  pub goes_on : t ≡ rest f

-- a text of the form, whose lists have n numbers each, and room for them in d
pub record Fitting (text : Bytes) (n : ℕ) (d : Bytes) : Type 0 where
  pub form : formed text ≡ true
  pub ring : (sheet_of text).numbers.ring ≡ n
  pub fit : unfit (sheet_of text) ≡ false
  pub space : 40 * n ≤ length d

-- the refusals 3, 4 and 5, by the counts and the largest coefficients of the lists
abbrev pub judged : Numbers → List ℕ → List ℕ → Reading
judged k counts tops =
    cond (outside k) (Refused 3)
    (cond (unsound k) (Refused 4)
    (cond (every (λ c. eqb c k.ring) counts && all_below k.modulus tops) (Taken k)
    (Refused 5)))

-- what a lent buffer holds after a reading: the polynomials at its head, or what it held if the sheet is refused
abbrev pub buffer_after : Reading → Bytes → Bytes → Bytes
buffer_after (Taken k) text d = put d 0 (polynomials text)
buffer_after (Refused n) text d = d

unfoldable pub loaded : Bytes → Bytes → Bytes
loaded text d = buffer_after (reading text) text d
