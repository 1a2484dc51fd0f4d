-- Powers modulo q, by squaring. Assumes nothing.
use Rattle.std.proofs.Common.{◌≡◌, ℕ, zero, suc, ◌+◌, ◌*◌, ◌/◌, ◌%◌, ◌^◌, ◌<◌, sym, ap, ◌∙◌, ap₂, mod-lt, mod-eq_of_lt, mul_assoc, one-mul, mul-one, mul_left_comm, arith, pow-add}
use native.Mathlib.Nat.{pow-zero, pow-succ'}
use Rattle.modular.specs.Modulo.{Same}
use Rattle.modular.specs.Internal.{ScaledProducts}
use Rattle.modular.proofs.Congruence.{same_refl, same_eq, same_mod, same_mul, ◌then◌}

pub same_pow : {q a b : ℕ} (k : ℕ) → Same q a b → Same q (a ^ k) (b ^ k)
same_pow {a} {b} zero e = same_eq (pow-zero a ∙ sym (pow-zero b))
same_pow {a} {b} (suc k) e = same_eq (pow-succ' a k) then same_mul e (same_pow k e) then same_eq (sym (pow-succ' b k))

square_power : (b k : ℕ) → (b * b) ^ k ≡ b ^ k * b ^ k
square_power b zero = pow-zero (b * b) ∙ sym (ap₂ (λ (m n : ℕ). m * n) (pow-zero b) (pow-zero b))
square_power b (suc k) = pow-succ' (b * b) k ∙ ap (λ (n : ℕ). b * b * n) (square_power b k) ∙ regroup (b ^ k) ∙ ap₂ (λ (m n : ℕ). m * n) (sym (pow-succ' b k)) (sym (pow-succ' b k))
  where
    regroup : (p : ℕ) → b * b * (p * p) ≡ b * p * (b * p)
    regroup p = simp (mul_assoc, mul_left_comm)

-- the lowest bit of the exponent, and the others
by_bit : (b e : ℕ) → b ^ e ≡ b ^ (e % 2) * (b * b) ^ (e / 2)
by_bit b e =
    let h : e ≡ e % 2 + (e / 2 + e / 2) = omega arith in
    ap (λ (n : ℕ). b ^ n) h ∙ pow-add b (e % 2) (e / 2 + e / 2) ∙ ap (λ (n : ℕ). b ^ (e % 2) * n) (pow-add b (e / 2) (e / 2) ∙ sym (square_power b (e / 2)))

-- a turn of the loop, where products come out times c
pub power_next : {q x y p : ℕ} (r b c e : ℕ) → Same q x (r * (b * c) ^ (e % 2)) → Same q y (b * b * c) → Same q (r * (b * c) ^ e) p → Same q (x * (y * c) ^ (e / 2)) p
power_next r b c e ex ey h =
    same_mul ex (same_pow (e / 2) (same_mul ey (same_refl {x = c}) then same_eq regroup))
    then same_eq (mul_assoc r ((b * c) ^ (e % 2)) ((b * c * (b * c)) ^ (e / 2)) ∙ ap (λ (n : ℕ). r * n) (sym (by_bit (b * c) e))) then h
  where
    regroup : b * b * c * c ≡ b * c * (b * c)
    regroup = simp (mul_assoc, mul_left_comm)

pub no_bit : {q : ℕ} (r b e : ℕ) → (e % 2 ≡ 1 → ⊥) → Same q r (r * b ^ (e % 2))
no_bit r b e h =
    let z : e % 2 ≡ 0 = omega arith in
    same_eq (sym (ap (λ (n : ℕ). r * b ^ n) z ∙ ap (λ (n : ℕ). r * n) (pow-zero b) ∙ mul-one r))

pub one_bit : {q x : ℕ} (r b c e : ℕ) → e % 2 ≡ 1 → Same q x (r * b * c) → Same q x (r * (b * c) ^ (e % 2))
one_bit r b c e h k = k then same_eq (mul_assoc r b c ∙ sym (ap (λ (n : ℕ). r * (b * c) ^ n) h ∙ ap (λ (n : ℕ). r * n) (pow-succ' (b * c) 0 ∙ ap (λ (n : ℕ). b * c * n) (pow-zero (b * c)) ∙ mul-one (b * c))))

pub power_last : {q p : ℕ} (r b left : ℕ) → left ≡ 0 → Same q (r * b ^ left) p → Same q r p
power_last r b left z h = same_eq (sym (ap (λ (n : ℕ). r * b ^ n) z ∙ ap (λ (n : ℕ). r * n) (pow-zero b) ∙ mul-one r)) then h

-- calls that multiply modulo q
pub multiplies : {may : ℕ → ℕ → Type 0} {gives : ℕ → ℕ → ℕ → Type 0} (q : ℕ) → 0 < q → ((x y : ℕ) → x < q → y < q → may x y) → ((x y z : ℕ) → x < q → y < q → gives x y z → z ≡ x * y % q)
    → ScaledProducts may gives q 1
multiplies q p h f = record {
  takes = h;
  below = λ x y z a b g. rw (f x y z a b g) (mod-lt (x * y) p);
  is = λ x y z a b g. same_eq (f x y z a b g) then same_mod then same_eq (sym (mul-one (x * y)));
}

pub power_is : {q r : ℕ} (w e : ℕ) → r < q → Same q r (1 * (w * 1) ^ e) → r ≡ w ^ e % q
power_is {q} w e l h = sym (mod-eq_of_lt l) ∙ h.is ∙ ap (λ (n : ℕ). n % q) (one-mul ((w * 1) ^ e) ∙ ap (λ (n : ℕ). n ^ e) (mul-one w))
