-- The rotation by shifts is the rotation of the definition. Assumes nothing.
use mathlib.Core.Path.{◌≡◌, sym, ap, ap₂, ◌∙◌, subst}
use Prim.Native.Nat.{ℕ, ◌+◌, ◌-◌, ◌*◌, ◌/◌, ◌%◌, ◌^◌, ◌<◌}
use native.Mathlib.Omega.{arith}
use lib.Bits.{bit_or, or_shifted}
use lib.Pow.{pow_pos, pow-add, shr-shr, shr_lt}
use lib.Arith.{mod-mul}
use native.Mathlib.Nat.{mul-div_cancel, mul-mod_left, add-zero}
use Rattle.keccak.specs.Steps.{rotate}

-- what is shifted out at the top is gone
pub kept : (x n m : ℕ) → x * 2 ^ n % 2 ^ (m + n) ≡ (x % 2 ^ m) * 2 ^ n
kept x n m =
    ap (λ (k : ℕ). x * 2 ^ n % k) (pow-add 2 m n)
    ∙ mod-mul (x * 2 ^ n) (pow_pos m) (pow_pos n)
    ∙ ap₂ (λ (h l : ℕ). (h % 2 ^ m) * 2 ^ n + l) (mul-div_cancel x (pow_pos n)) (mul-mod_left x (2 ^ n))
    ∙ add-zero _

pub rotated : (x n : ℕ) → x < 2 ^ 64 → n < 64 → bit_or (x * 2 ^ n % 2 ^ 64) (x / 2 ^ 1 / 2 ^ (63 - n)) ≡ rotate x n
unfolding rotate
rotated x n hx hn =
    let e : 64 ≡ (64 - n) + n = omega arith in
    let f : 1 + (63 - n) ≡ 64 - n = omega arith in
    let g : 64 ≡ n + (64 - n) = omega arith in
    let low : x / 2 ^ (64 - n) < 2 ^ n = shr_lt n (64 - n) (subst (λ (k : ℕ). x < 2 ^ k) g hx) in
    let top : x * 2 ^ n % 2 ^ 64 ≡ (x % 2 ^ (64 - n)) * 2 ^ n = ap (λ (k : ℕ). x * 2 ^ n % 2 ^ k) e ∙ kept x n (64 - n) in
    ap₂ bit_or top (shr-shr x 1 (63 - n) ∙ ap (λ (k : ℕ). x / 2 ^ k) f)
    ∙ or_shifted (x % 2 ^ (64 - n)) n (x / 2 ^ (64 - n)) low
    ∙ ap (λ (h : ℕ). h + x / 2 ^ (64 - n)) (sym top)
