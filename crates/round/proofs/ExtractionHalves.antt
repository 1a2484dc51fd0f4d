-- What two openings and extracted unknowns say together, once for s and for e: the difference of the hiding polynomials is small and the row takes it to zero; where
-- it is zero itself, the openings add up to what was extracted. Assumes nothing.
use mathlib.Core.Path.{◌≡◌}
use Prim.Native.Nat.{ℕ, ◌%◌, ◌<◌}
use Rattle.codec.specs.Bytes.{Bytes}
use Rattle.ring.specs.Poly.{Poly, plus, mul, zero_poly, Alike}
use Rattle.ring.proofs.Polynomials.{plus_comm, alike_eq, alike_refl, alike_sym, ◌so◌, alike_minus, minus_self, minus_zero, alike_cancel}
use Rattle.bgv.specs.Scheme.{Small}
use Rattle.commitment.specs.Commitment.{Keys, Three, Alike3, Pair, three_of, plus3, minus3, row, second, Opens}
use Rattle.commitment.proofs.Additive.{row_minus, second_alike, opens_add}
use Rattle.round.specs.Extractor.{zero3}
use Rattle.round.proofs.ExtractionSizes.{small_ternary, small_four}

-- every centred coefficient of the three is at most K in size
pub record Small3 (q N K : ℕ) (r : Three) : Type 0 where
  pub r1 : Small q N K r.r1
  pub r2 : Small q N K r.r2
  pub r3 : Small q N K r.r3

-- what is opened with three ternary polynomials is short
pub opened_short : (q N : ℕ) → q % 2 ≡ 1 → 1 < q → (r : Bytes) → Small3 q N 1 (three_of q N r)
opened_short q N odd h r = record { r1 = small_ternary q odd N _ h; r2 = small_ternary q odd N _ h; r3 = small_ternary q odd N _ h }

-- the openings' summed r less the extracted summed r
abbrev pub difference : (q : ℕ) (r0 r1 x0 x1 : Three) → Three
difference q r0 r1 x0 x1 = minus3 q (plus3 r0 r1) (plus3 x0 x1)

-- two openings, with m0, r0 and m1, r1, of the pairs c0 and c1; the extracted x0, x1 and n make the sum of the pairs
module _ (q N : ℕ) (k : Keys) (r0 r1 x0 x1 : Three) where
  pub difference_small : q % 2 ≡ 1 → Small3 q N 1 r0 → Small3 q N 1 r1 → Small3 q N 1 x0 → Small3 q N 1 x1 → Small3 q N 4 (difference q r0 r1 x0 x1)
  difference_small odd a b c d = record {
    r1 = small_four q odd N r0.r1 r1.r1 x0.r1 x1.r1 a.r1 b.r1 c.r1 d.r1;
    r2 = small_four q odd N r0.r2 r1.r2 x0.r2 x1.r2 a.r2 b.r2 c.r2 d.r2;
    r3 = small_four q odd N r0.r3 r1.r3 x0.r3 x1.r3 a.r3 b.r3 c.r3 d.r3;
  }

  module _ (positive : 0 < q) (c0 c1 : Pair) (m0 m1 n : Poly) (open0 : Opens q N k c0 r0 m0) (open1 : Opens q N k c1 r1 m1)
      (made1 : Alike q N (row q N k (plus3 x0 x1)) (plus c0.one c1.one)) (made2 : Alike q N (second q N k (plus3 x0 x1) n) (plus c0.two c1.two)) where
    sum : Opens q N k (record { one = plus c0.one c1.one; two = plus c0.two c1.two }) (plus3 r0 r1) (plus m0 m1)
    sum = opens_add q N k open0 open1 alike_refl

    pub row_vanishes : Alike q N (row q N k (difference q r0 r1 x0 x1)) zero_poly
    row_vanishes =
        alike_eq (row_minus q N k (plus3 r0 r1) (plus3 x0 x1)) so alike_minus (alike_sym (made1 so sum.one)) alike_refl so minus_self (row q N k (plus3 x0 x1)) positive

    pub openings_add : Alike3 q N (difference q r0 r1 x0 x1) zero3 → Alike q N (plus m0 m1) n
    unfolding second
    openings_add z =
        alike_cancel (plus (plus r0.r2 r1.r2) (mul q N k.k3 (plus r0.r3 r1.r3))) positive
        (alike_eq (plus_comm (plus m0 m1) _) so alike_sym sum.two so alike_sym made2 so second_alike q N k (agree z) alike_refl so alike_eq (plus_comm _ n))
      where
        agree : Alike3 q N (difference q r0 r1 x0 x1) zero3 → Alike3 q N (plus3 x0 x1) (plus3 r0 r1)
        agree y = record { r1 = alike_sym (minus_zero positive y.r1); r2 = alike_sym (minus_zero positive y.r2); r3 = alike_sym (minus_zero positive y.r3) }
