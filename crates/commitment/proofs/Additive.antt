-- The row and the pair are additive, in what is committed and in what hides it (document 000, section 6.1: commitments are linearly homomorphic). Assumes nothing.
use mathlib.Core.Path.{◌≡◌}
use Prim.Native.Nat.{ℕ}
use Rattle.ring.specs.Poly.{Poly, plus, minus, Alike}
use Rattle.ring.proofs.Polynomials.{plus_comm, plus_assoc, plus_left_comm, scale_plus, mul_plus, mul_scale, alike_eq, alike_refl, alike_sym, ◌so◌, alike_plus, alike_mul}
use Rattle.commitment.specs.Commitment.{Keys, Three, plus3, minus3, Alike3, Pair, row, second, Opens}

module _ (q N : ℕ) (k : Keys) where
  pub row_adds : (x y : Three) → row q N k (plus3 x y) ≡ plus (row q N k x) (row q N k y)
  unfolding row
  row_adds x y = simp (mul_plus, plus_assoc, plus_left_comm)

  pub row_minus : (x y : Three) → row q N k (minus3 q x y) ≡ minus q (row q N k x) (row q N k y)
  unfolding row
  row_minus x y = simp (mul_plus, mul_scale, scale_plus, plus_assoc, plus_left_comm)

  pub second_adds : (x y : Three) (m n : Poly) → second q N k (plus3 x y) (plus m n) ≡ plus (second q N k x m) (second q N k y n)
  unfolding second
  second_adds x y m n = simp (mul_plus, plus_assoc, plus_comm, plus_left_comm)

  -- ---- both go by what the coefficients are modulo q

  pub row_alike : {x y : Three} → Alike3 q N x y → Alike q N (row q N k x) (row q N k y)
  unfolding row
  row_alike e = alike_plus (alike_plus e.r1 (alike_mul alike_refl e.r2)) (alike_mul alike_refl e.r3)

  pub second_alike : {x y : Three} {m n : Poly} → Alike3 q N x y → Alike q N m n → Alike q N (second q N k x m) (second q N k y n)
  unfolding second
  second_alike e f = alike_plus (alike_plus e.r2 (alike_mul alike_refl e.r3)) f

  -- pairs that are opened add up to a pair that is opened
  pub opens_add : {c d : Pair} {x y : Three} {m n l : Poly} → Opens q N k c x m → Opens q N k d y n → Alike q N (plus m n) l
      → Opens q N k (record { one = plus c.one d.one; two = plus c.two d.two }) (plus3 x y) l
  opens_add {c} {d} {x} {y} {m} {n} o w e = record {
    one = alike_plus o.one w.one so alike_sym (alike_eq (row_adds x y));
    two = alike_plus o.two w.two so alike_sym (alike_eq (second_adds x y m n)) so second_alike (record { r1 = alike_refl; r2 = alike_refl; r3 = alike_refl }) e;
  }
