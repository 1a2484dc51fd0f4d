-- Sums and products of small numbers modulo q are small. Assumes nothing.
use Rattle.std.proofs.Common.{◌≡◌, ℕ, ◌+◌, ◌-◌, ◌*◌, ◌/◌, ◌%◌, ◌<◌, ◌≤◌, ◌∙◌, add_assoc, mul_comm, add-mul, mul-le-mul, add_comm, mul-add, mul_left_comm, arith}
use native.Mathlib.Nat.{add_left_comm}
use Rattle.modular.specs.Modulo.{Same, centre, remainder}
use Rattle.modular.proofs.Congruence.{same_refl, same_eq, same_sym, ◌then◌, same_add, same_mul, same_more, with_opposite}
use Rattle.modular.proofs.Centring.{Near, near_remainder}

pub near_le : {q K L x : ℕ} → K ≤ L → Near q K x → Near q L x
near_le h y = let s = y.small in record { m = y.m; n = y.n; is = y.is; small = omega arith }

pub near_add : {q K L x y : ℕ} → Near q K x → Near q L y → Near q (K + L) (x + y)
near_add {x} {y} a b = let s = a.small in let t = b.small in record {
  m = a.m + b.m;
  n = a.n + b.n;
  is = same_eq {y = x + a.n + (y + b.n)} (omega arith) then same_add a.is b.is;
  small = omega arith;
}

pub near_negative : {q K x : ℕ} → 0 < q → Near q K x → Near q K ((q - 1) * x)
near_negative {q} {x} h a = let s = a.small in record {
  m = a.n;
  n = a.m;
  is = same_add (same_refl {x = (q - 1) * x}) (same_sym a.is) then same_eq {y = x * q + a.n} (omega (arith, with_opposite q x h)) then same_more a.n x;
  small = omega arith;
}

spread : (x y n n' : ℕ) → x * y + ((x + n) * n' + n * (y + n')) ≡ (x + n) * (y + n') + n * n'
spread x y n n' = simp (mul-add, add-mul, add_assoc, add_left_comm)

area : (m n m' n' : ℕ) → m * m' + n * n' + (m * n' + n * m') ≡ (m + n) * (m' + n')
area m n m' n' = simp (mul-add, add-mul, add_assoc, add_comm, add_left_comm)

pub near_mul : {q K L x y : ℕ} → Near q K x → Near q L y → Near q (K * L) (x * y)
near_mul {x} {y} a b = record {
  m = a.m * b.m + a.n * b.n;
  n = a.m * b.n + a.n * b.m;
  is =
      same_add (same_refl {x = x * y}) (same_add (same_mul (same_sym a.is) (same_refl {x = b.n})) (same_mul (same_refl {x = a.n}) (same_sym b.is)))
      then same_eq (spread x y a.n b.n) then same_add (same_mul a.is b.is) same_refl;
  small = rw (area a.m a.n b.m b.n) (mul-le-mul a.small b.small);
}

-- what a multiple of p adds does not show in the remainder by p
pub near_plain : {q K x y : ℕ} (p r : ℕ) → q % 2 ≡ 1 → 0 < p → p * K + r ≤ (q - 1) / 2 → Same q x (p * y + r) → Near q K y
    → (Near q (p * K + r) x) × (remainder p (centre q x) ≡ r % p)
near_plain {q} {K} {x} {y} p r odd h room e a = (near, near_remainder odd room p near h ∙ tidy.is)
  where
    near : Near q (p * K + r) x
    near = record {
      m = p * a.m + r;
      n = p * a.n;
      is =
          same_add e (same_refl {x = p * a.n}) then same_eq {y = p * (y + a.n) + r} (omega (arith, mul-add p y a.n))
          then same_add (same_mul (same_refl {x = p}) a.is) same_refl;
      small = omega (arith, mul-add p a.m a.n, mul-le-mul {n₁ = p} {n₂ = p} (omega arith) a.small);
    }

    tidy : Same p (p * a.m + r + (p - 1) * (p * a.n)) r
    tidy =
        same_eq {y = (a.m + (p - 1) * a.n) * p + r}
        (omega (arith, add-mul a.m ((p - 1) * a.n) p, mul_comm a.m p, mul_left_comm (p - 1) p a.n, mul_comm ((p - 1) * a.n) p))
        then same_more r (a.m + (p - 1) * a.n)
