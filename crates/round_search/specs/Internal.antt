-- What the contracts of inner functions and the proofs go by: no exported contract and no claim cites this file. Assumes nothing.
use Rattle.std.specs.Prelude.{◌≡◌, ℕ, ◌+◌, ◌*◌, cond, not, List, ◌++◌, get_or, take}
use Rattle.codec.specs.Bytes.{Bytes, part, zeros}
use Rattle.commitment.specs.Parameters.{Parameters}
use Rattle.round.specs.Extractor.{openings_of, kind, extracted, three_bytes, is_zero, ternary_bytes}
use Rattle.ring.specs.Poly.{Poly, plus, minus}
use Rattle.ring.specs.Ternary.{ternary}
use Rattle.commitment.specs.Commitment.{Three, three_of, plus3, minus3}
use Rattle.vector.specs.Vector.{vector, subtract}
use Rattle.stern.specs.Shortness.{polynomial, three_from}

-- ---- what the search for a collision, a short vector or the key comes to, by what it is lent: a first message, two openings and three answers

-- shares, ballots, claims and a repetition, whatever they are, do not enter
pub record Finds (P : Parameters) (head opening0 opening1 answer1 answer2 answer3 : Bytes) (found : ℕ) (out : Bytes) : Type 0 where
  pub kind_is : (m : ℕ) (shares0 shares1 ballots claims : Bytes) (repetition : ℕ)
      → found ≡ kind P m (openings_of head shares0 shares1 ballots claims opening0 opening1 repetition answer1 answer2 answer3)
  pub out_is : (m : ℕ) (shares0 shares1 ballots claims : Bytes) (repetition : ℕ)
      → out ≡ extracted P m (openings_of head shares0 shares1 ballots claims opening0 opening1 repetition answer1 answer2 answer3)

-- ---- what inner functions work out: the unknowns, and what they leave of two openings

-- ---- the unknowns

-- what they give
abbrev pub unknowns_of : (q N : ℕ) (u r : Bytes) → List ℕ
unknowns_of q N u r = take (14 * N) (subtract q (vector u) (vector r))

-- two openings' summed r, in ternary bytes, less the summed r of unknowns: the three from polynomial j on and the three behind them
abbrev pub less_unknowns : (q N : ℕ) (r0 r1 : Bytes) → List ℕ → ℕ → Three
less_unknowns q N r0 r1 z j = minus3 q (plus3 (three_of q N r0) (three_of q N r1)) (plus3 (three_from N z j) (three_from N z (j + 3)))

-- the numbers of a list from one on
unfoldable pub from : List ℕ → ℕ → Poly
from z first = λ i. get_or z (first + i) 0

-- that vector as 3N numbers side by side; the first three r start at a number of the unknowns, the others behind them
unfoldable pub excess : (q N : ℕ) (r0 r1 : Bytes) → List ℕ → ℕ → Poly
excess q N r0 r1 z first = minus q (plus (ternary q r0) (ternary q r1)) (plus (from z first) (from z (first + 3 * N)))

-- 4, 5, 6: the vector for s, else the vector for e, else the key; and what is written
unfoldable pub solved : (q N : ℕ) (s e : Three) → ℕ
solved q N s e = cond (not (is_zero q N s)) 4 (cond (not (is_zero q N e)) 5 6)

unfoldable pub written_vectors : (q N : ℕ) (s e : Three) → Bytes → Bytes
written_vectors q N s e key = cond (not (is_zero q N s)) (three_bytes q N s) (cond (not (is_zero q N e)) (three_bytes q N e) key)

-- the same from two openings and unknowns
module _ (q N : ℕ) (opening0 opening1 : Bytes) (z : List ℕ) where
  -- by where the r of s, or of e, stand in an opening, and which of the unknowns they are less
  abbrev pub vector_at : (at j : ℕ) → Three
  vector_at at j = less_unknowns q N (part opening0 at (3 * N)) (part opening1 at (3 * N)) z j

  -- s and e, and then zeros
  abbrev pub recovered_key : Bytes
  recovered_key = ternary_bytes q N (polynomial N z 0) ++ (ternary_bytes q N (polynomial N z 1) ++ zeros (22 * N))

  abbrev pub solved_by : ℕ
  solved_by = solved q N (vector_at (16 * N) 2) (vector_at (19 * N) 8)

  abbrev pub written_by : Bytes
  written_by = written_vectors q N (vector_at (16 * N) 2) (vector_at (19 * N) 8) recovered_key
