-- -1 / q modulo a power of two, bit by bit, and powers of two modulo q. Assumes nothing.
use mathlib.Core.Path.{◌≡◌, sym, ap, ◌∙◌}
use Prim.Native.Nat.{ℕ, ◌+◌, ◌*◌, ◌/◌, ◌%◌, ◌^◌, ◌≤◌, ◌<◌}
use native.Mathlib.Nat.{add-zero, mul_assoc, mul_comm, mul-add, add-mul, two-mul, zero-mod, div-add-mod', pow-succ', pow-le-pow_right}
use native.Mathlib.Numerals.{add-one}
use lib.Pow.{pow_pos}
use native.Mathlib.Omega.{arith}
use Rattle.modular.proofs.Congruence.{same_refl, same_eq, same_sym, same_mod, same_add, same_mul, same_more, ◌then◌}
use Rattle.montgomery.specs.Internal.{Modulus}

-- ---- 2^k modulo q

pub next_power : (q i : ℕ) {r : ℕ} → r ≡ 2 ^ i % q → (r + r) % q ≡ 2 ^ (i + 1) % q
next_power q i {r} e =
    (same_add (same_eq e then same_mod) (same_eq e then same_mod) then same_eq (sym (ap (λ (n : ℕ). 2 ^ n) (add-one i) ∙ pow-succ' 2 i ∙ two-mul (2 ^ i)))).is

-- ---- -1 / q modulo 2^28

multiple : (n m u : ℕ) → n ≡ u * m → n % m ≡ 0
multiple n m u e = (same_eq (e ∙ sym (add-zero (u * m))) then same_more 0 u).is ∙ zero-mod m

exactly : (n p : ℕ) → n % p ≡ 0 → n / p * p ≡ n
exactly n p e = omega (arith, div-add-mod' n p)

pub lift_even : (a x p : ℕ) → (a * x + 1) % p ≡ 0 → ((a * x + 1) / p % 2 ≡ 1 → ⊥) → (a * x + 1) % (p * 2) ≡ 0
lift_even a x p e h =
    let t : ℕ = (a * x + 1) / p in
    let u : t ≡ t / 2 * 2 = omega arith in
    multiple (a * x + 1) (p * 2) (t / 2) (sym (exactly (a * x + 1) p e) ∙ ap (λ (n : ℕ). n * p) u ∙ mul_assoc (t / 2) 2 p ∙ ap (λ (n : ℕ). t / 2 * n) (mul_comm 2 p))

pub lift_odd : (a x p : ℕ) → a % 2 ≡ 1 → (a * x + 1) % p ≡ 0 → (a * x + 1) / p % 2 ≡ 1 → (a * (x + p) + 1) % (p * 2) ≡ 0
lift_odd a x p o e h =
    let t : ℕ = (a * x + 1) / p in
    let u : t + a ≡ (t + a) / 2 * 2 = omega arith in
    let k : a * (x + p) + 1 ≡ a * x + 1 + a * p = omega (arith, mul-add a x p) in
    multiple (a * (x + p) + 1) (p * 2) ((t + a) / 2)
    (k ∙ ap (λ (n : ℕ). n + a * p) (sym (exactly (a * x + 1) p e)) ∙ sym (add-mul t a p) ∙ ap (λ (n : ℕ). n * p) u ∙ mul_assoc ((t + a) / 2) 2 p ∙ ap (λ (n : ℕ). (t + a) / 2 * n) (mul_comm 2 p))

pub small_power : (i : ℕ) → i < 28 → (0 < 2 ^ i) × (2 ^ i ≤ 134217728)
small_power i h = (pow_pos i, pow-le-pow_right {n = 2} (omega arith) {i = i} {j = 27} (omega arith))

-- `1 << i`
pub shifted : (i : ℕ) → i < 28 → 1 * 2 ^ i % 2 ^ 64 ≡ 2 ^ i
shifted i h = let s = small_power i h in omega arith

pub modulus : (q x : ℕ) → q < 2 ^ 56 → q % 2 ≡ 1 → x < 268435456 → (q % 268435456 * x + 1) % 268435456 ≡ 0 → Modulus q x
modulus q x s o d e = record { small = s; odd = o; inverse = (same_add (same_mul (same_sym (same_mod {q = 268435456} {x = q})) (same_refl {x = x})) (same_refl {x = 1})).is ∙ e; digit = d }
