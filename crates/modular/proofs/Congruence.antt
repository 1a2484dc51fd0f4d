-- Laws of congruence modulo q. Assumes nothing.
use Rattle.std.proofs.Common.{◌≡◌, ℕ, zero, suc, ◌+◌, ◌-◌, ◌*◌, ◌/◌, ◌%◌, ◌<◌, ◌≤◌, sym, refl, ap, ◌∙◌, ap₂, mul-le-mul_right, mul_assoc, mul_comm, add-mul, div-add-mod', zero-add, mul-suc, mul_left_comm, sub-one, arith}
use native.Mathlib.Nat.{mod-mod, add-mod, mul-add-mod_self_right}
use native.Mathlib.Decide.{dec_lt}
use Rattle.modular.specs.Modulo.{Same}

-- ---- an equivalence

pub same_refl : {q x : ℕ} → Same q x x
same_refl = record { is = refl }

pub same_eq : {q x y : ℕ} → x ≡ y → Same q x y
same_eq {q} e = record { is = ap (λ (n : ℕ). n % q) e }

pub same_sym : {q x y : ℕ} → Same q x y → Same q y x
same_sym e = record { is = sym e.is }

infixr 40 ◌then◌
pub ◌then◌ : {q x y z : ℕ} → Same q x y → Same q y z → Same q x z
e then f = record { is = e.is ∙ f.is }

-- ---- sums and products

pub mod_mul_left : (q x y : ℕ) → (x % q) * y % q ≡ x * y % q
mod_mul_left q x y =
    sym (mul-add-mod_self_right (x / q * y) q (x % q * y))
    ∙ ap (λ (n : ℕ). n % q) (regroup ∙ ap (λ (n : ℕ). n * y) (div-add-mod' x q))
  where
    regroup : x / q * y * q + x % q * y ≡ (x / q * q + x % q) * y
    regroup = simp (add-mul, mul_assoc, mul_comm, mul_left_comm)

pub mod_mul_right : (q x y : ℕ) → x * (y % q) % q ≡ x * y % q
mod_mul_right q x y = ap (λ (n : ℕ). n % q) (mul_comm x (y % q)) ∙ mod_mul_left q y x ∙ ap (λ (n : ℕ). n % q) (mul_comm y x)

-- a remainder is the same as what it is of
pub same_mod : {q x : ℕ} → Same q (x % q) x
same_mod {q} {x} = record { is = mod-mod x q }

pub same_add : {q a b c d : ℕ} → Same q a b → Same q c d → Same q (a + c) (b + d)
same_add {q} {a} {b} {c} {d} e f = record { is = add-mod a c q ∙ ap₂ (λ (x y : ℕ). (x + y) % q) e.is f.is ∙ sym (add-mod b d q) }

pub same_mul : {q a b c d : ℕ} → Same q a b → Same q c d → Same q (a * c) (b * d)
same_mul {q} {a} {b} {c} {d} e f = record {
  is =
      sym (mod_mul_left q a c) ∙ ap (λ (n : ℕ). n * c % q) e.is ∙ mod_mul_left q b c
      ∙ sym (mod_mul_right q b c) ∙ ap (λ (n : ℕ). b * n % q) f.is ∙ mod_mul_right q b d;
}

-- a multiple of q more or less
pub same_more : {q : ℕ} (x m : ℕ) → Same q (m * q + x) x
same_more {q} x m = record { is = mul-add-mod_self_right m q x }

-- ---- -x is (q - 1) * x

-- x + -x is a multiple of q
pub with_opposite : (q x : ℕ) → 0 < q → x + (q - 1) * x ≡ x * q
with_opposite zero x h = absurd (omega arith)
with_opposite (suc p) x h = omega (arith, mul-suc x p, mul_comm x p, ap (λ (z : ℕ). z * x) (sub-one (suc p)))

-- x - x = 0
pub same_opposite : {q : ℕ} (x : ℕ) → 0 < q → Same q (x + (q - 1) * x) 0
same_opposite {q} x h = same_eq {y = x * q + 0} (omega (arith, with_opposite q x h)) then same_more 0 x

-- q - x is -x
pub same_negative : {q : ℕ} (x : ℕ) → x ≤ q → 0 < q → Same q (q - x) ((q - 1) * x)
same_negative {q} x l h =
    same_sym (same_more (q - x) x) then same_eq {y = 1 * q + (q - 1) * x} (omega (arith, with_opposite q x h)) then same_more ((q - 1) * x) 1

-- what is added on both sides may go
pub same_cancel : {q x y : ℕ} (z : ℕ) → 0 < q → Same q (x + z) (y + z) → Same q x y
same_cancel {q} {x} {y} z h e =
    same_sym (same_more x z) then same_eq {y = x + z + (q - 1) * z} (omega (arith, with_opposite q z h)) then same_add e (same_refl {x = (q - 1) * z})
    then same_eq {y = z * q + y} (omega (arith, with_opposite q z h)) then same_more y z

-- x - y = 0 only if x = y
pub same_minus : {q x y : ℕ} → 0 < q → Same q (x + (q - 1) * y) 0 → Same q x y
same_minus {q} {x} {y} h e =
    same_sym (same_more x y) then same_eq {y = x + (q - 1) * y + y} (omega (arith, with_opposite q y h)) then same_add e (same_refl {x = y}) then same_eq (zero-add y)

-- ---- congruent numbers that are less than q apart are equal

apart : (q i j : ℕ) → i < j → i * q + q ≤ j * q
apart q i j h = omega (arith, mul-le-mul_right q h, add-mul i 1 q)

pub close : {q a b : ℕ} → Same q a b → a < b + q → b < a + q → a ≡ b
close {q} {a} {b} e ha hb = go (dec_lt (a / q) (b / q)) (dec_lt (b / q) (a / q))
  where
    go : Dec (a / q < b / q) → Dec (b / q < a / q) → a ≡ b
    go (yes l) d = absurd (omega (arith, apart q (a / q) (b / q) l, div-add-mod' a q, div-add-mod' b q, e.is))
    go (no n) (yes l) = absurd (omega (arith, apart q (b / q) (a / q) l, div-add-mod' a q, div-add-mod' b q, e.is))
    go (no n) (no l) =
        let s : a / q ≡ b / q = omega arith in
        sym (div-add-mod' a q) ∙ ap₂ (λ (x y : ℕ). x * q + y) s e.is ∙ div-add-mod' b q
