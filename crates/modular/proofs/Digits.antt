-- Products of numbers below 2^56 by way of their two digits to the base 2^28. Assumes nothing.
use Rattle.std.proofs.Common.{◌≡◌, ℕ, ◌+◌, ◌*◌, ◌/◌, ◌%◌, ◌^◌, ◌<◌, ◌≤◌, ◌∙◌, ap₂, add_assoc, mul_assoc, mul_comm, add-mul, mul-le-mul, add_comm, div-add-mod', mul-add, mul_left_comm, arith}
use native.Mathlib.Nat.{add_left_comm}

-- a product of two digits
pub digits_le : (x y : ℕ) → x < 268435456 → y < 268435456 → x * y ≤ 72057593501057025
digits_le x y hx hy = mul-le-mul {n₂ = 268435455} {m₂ = 268435455} (omega arith) (omega arith)

pub low_digit : (x : ℕ) → x % 268435456 < 268435456
low_digit x = omega arith

pub high_digit : (x : ℕ) → x < 2 ^ 56 → x / 268435456 < 268435456
high_digit x h = omega arith

columns : (b x₀ x₁ y₀ y₁ : ℕ) → x₀ * y₀ + (x₀ * y₁ + x₁ * y₀ + x₁ * y₁ * b) * b ≡ (x₁ * b + x₀) * (y₁ * b + y₀)
columns b x₀ x₁ y₀ y₁ = simp (mul-add, add-mul, mul_assoc, mul_comm, mul_left_comm, add_assoc, add_comm, add_left_comm)

-- the product by its digits, to any base
pub by_digits : (b x y : ℕ) → x % b * (y % b) + (x % b * (y / b) + x / b * (y % b) + x / b * (y / b) * b) * b ≡ x * y
by_digits b x y = columns b (x % b) (x / b) (y % b) (y / b) ∙ ap₂ (λ (m n : ℕ). m * n) (div-add-mod' x b) (div-add-mod' y b)
