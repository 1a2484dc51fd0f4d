-- What a sheet's lists must be (document 01, "Sheet" and refusal 5) in plain propositions: no test stands in them. Its numbers: sheet_numbers, specs/Ranges.antt. Assumes nothing.
use Rattle.std.specs.Prelude.{◌≡◌, List, ℕ, length}
use Rattle.sheet.specs.Form.{Sheet}
use Rattle.round.specs.Accepted.{EachBelow}

-- 5: N coefficients below q
pub record ListFits (n q : ℕ) (xs : List ℕ) : Type 0 where
  pub count : length xs ≡ n
  pub below : EachBelow q xs

pub record ListsFit (s : Sheet) : Type 0 where
  pub a : ListFits s.numbers.ring s.numbers.modulus s.a
  pub b : ListFits s.numbers.ring s.numbers.modulus s.b
  pub k1 : ListFits s.numbers.ring s.numbers.modulus s.k1
  pub k2 : ListFits s.numbers.ring s.numbers.modulus s.k2
  pub k3 : ListFits s.numbers.ring s.numbers.modulus s.k3
