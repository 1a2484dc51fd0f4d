-- Sizes of centred coefficients: sums and products of small polynomials are small, and a ternary polynomial times any grows it at most N-fold. Assumes nothing.
use mathlib.Core.Path.{◌≡◌, ap}
use mathlib.Core.Logic.{◌⊎◌, inl, inr}
use mathlib.Core.Bool.{Bool, true, false, cond}
use Prim.Native.Nat.{ℕ, zero, suc, ◌+◌, ◌-◌, ◌*◌, ◌/◌, ◌%◌, ◌≤◌, ◌<◌}
use native.Mathlib.Nat.{suc-mul, zero-mul, one-mul, mod-eq_of_lt}
use native.Mathlib.Omega.{arith}
use lib.Dec.{eqb}
use lib.IntN.{nat_abs}
use lib.ListN.{get_or}
use Rattle.codec.specs.Bytes.{Bytes}
use Rattle.codec.proofs.Laws.{le_or}
use Rattle.modular.specs.Modulo.{centre, remainder}
use Rattle.modular.proofs.Congruence.{same_refl, same_eq, ◌then◌, same_more}
use Rattle.modular.proofs.Centring.{Near, near_centre, near_size}
use Rattle.modular.proofs.Near.{near_le, near_add, near_negative, near_mul}
use Rattle.ring.specs.Poly.{Poly, sum, turn, coefficient, mul}
use Rattle.ring.specs.Ternary.{meaning, ternary}
use Rattle.ring.proofs.Coefficients.{turn_low, turn_high}
use Rattle.ring.proofs.Polynomials.{mul_at}

pub near_sum : {q K : ℕ} (n : ℕ) (f : ℕ → ℕ) → ((i : ℕ) → i < n → Near q K (f i)) → Near q (n * K) (sum n f)
unfolding sum
near_sum {q} {K} zero f h = record { m = 0; n = 0; is = same_refl; small = omega (arith, zero-mul K) }
near_sum {q} {K} (suc n) f h = near_le (omega (arith, suc-mul n K)) (near_add (near_sum n f (λ i l. h i (omega arith))) (h n (omega arith)))

-- coefficients of size K and L give a product with coefficients of size N K L
pub near_product : {q N K L : ℕ} (a b : Poly) → 0 < q → ((i : ℕ) → i < N → Near q K (a i)) → ((i : ℕ) → i < N → Near q L (b i)) → (k : ℕ) → k < N → Near q (N * (K * L)) (mul q N a b k)
unfolding coefficient
near_product {q} {N} {K} {L} a b h ha hb k l = rw (mul_at q N a b k l) (near_sum N _ (λ i m. near_mul (ha i m) (turned i m (le_or i k))))
  where
    turned : (i : ℕ) → i < N → (i ≤ k) ⊎ (k < i) → Near q L (turn q N b k i)
    turned i m (inl e) = rw (turn_low q N b k i e) (hb (k - i) (omega arith))
    turned i m (inr e) = rw (turn_high q N b k i e) (near_negative h (hb (N + k - i) (omega arith)))

-- a ternary coefficient is 1, -1 or 0
pub ternary_value : (q : ℕ) (t : Bytes) (i : ℕ) → 1 < q → ternary q t i ≡ cond (eqb (get_or t i 0) 1) 1 (cond (eqb (get_or t i 0) 2) (q - 1) 0)
unfolding ternary meaning remainder
ternary_value q t i h = go (eqb (get_or t i 0) 1) (eqb (get_or t i 0) 2)
  where
    one : 1 % q ≡ 1
    one = mod-eq_of_lt h

    go : (u v : Bool) → remainder q (cond u (lib.IntN.pos 1) (cond v (lib.IntN.negsuc 0) (lib.IntN.pos 0))) ≡ cond u 1 (cond v (q - 1) 0)
    go true v = one
    go false true = rw one (mod-eq_of_lt {n = q - 1} {m = q} (omega arith))
    go false false = mod-eq_of_lt {n = 0} {m = q} (omega arith)

pub near_ternary : (q : ℕ) (t : Bytes) (i : ℕ) → 1 < q → Near q 1 (ternary q t i)
near_ternary q t i h = rw (ternary_value q t i h) (go (eqb (get_or t i 0) 1) (eqb (get_or t i 0) 2))
  where
    go : (u v : Bool) → Near q 1 (cond u 1 (cond v (q - 1) 0))
    go true v = record { m = 1; n = 0; is = same_refl; small = omega arith }
    go false true = record { m = 0; n = 1; is = same_eq {y = 1 * q + 0} (omega arith) then same_more 0 1; small = omega arith }
    go false false = record { m = 0; n = 0; is = same_refl; small = omega arith }

-- the noise bound's step: where N K stays in range, a ternary polynomial times one of centred size K has centred size at most N K
pub ternary_product_size : {q N K : ℕ} (t : Bytes) (b : Poly) → q % 2 ≡ 1 → 1 < q → N * K ≤ (q - 1) / 2 → ((i : ℕ) → i < N → nat_abs (centre q (b i)) ≤ K)
    → (k : ℕ) → k < N → nat_abs (centre q (mul q N (ternary q t) b k)) ≤ N * K
ternary_product_size {q} {N} {K} t b odd big room h k l =
    near_size odd room
    (near_le (omega (arith, ap (λ (x : ℕ). N * x) (one-mul K)))
    (near_product (ternary q t) b (omega arith) (λ i m. near_ternary q t i big) (λ i m. near_le (h i m) (near_centre q (b i) (omega arith))) k l))
