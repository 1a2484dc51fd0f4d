-- The bits of a lane after an operation on lanes. Assumes nothing.
use mathlib.Core.Path.{◌≡◌, refl, sym, ap, ap₂, subst, ◌∙◌}
use Prim.Native.Nat.{ℕ, zero, suc, ◌+◌, ◌-◌, ◌*◌, ◌/◌, ◌%◌, ◌^◌, ◌≤◌, ◌<◌}
use native.Mathlib.Decide.{dec_lt}
use native.Mathlib.Nat.{mod-lt, add-mul, one-mul, add_comm}
use native.Mathlib.Omega.{arith}
use lib.Arith.{digits_lt}
use lib.Bits.{bit_xor, bit_and, xor_shr, xor_mod, and_shr, and_mod}
use lib.Pow.{pow_pos, pow-add, shr-shr, shr_lt, field, split, high, mod-mod-pow}
use Rattle.keccak.specs.Keccak.{bit, rotate, complement}
use Rattle.keccak.proofs.Rotation.{kept}

-- two operations agree on bits where they agree on 0 and 1
pub on_bits : (f g : ℕ → ℕ → ℕ) → f 0 0 ≡ g 0 0 → f 0 1 ≡ g 0 1 → f 1 0 ≡ g 1 0 → f 1 1 ≡ g 1 1 → (a b : ℕ) → a < 2 → b < 2 → f a b ≡ g a b
on_bits f g p q r s zero zero ha hb = p
on_bits f g p q r s zero (suc zero) ha hb = q
on_bits f g p q r s zero (suc (suc b)) ha hb = absurd (omega arith)
on_bits f g p q r s (suc zero) zero ha hb = r
on_bits f g p q r s (suc zero) (suc zero) ha hb = s
on_bits f g p q r s (suc zero) (suc (suc b)) ha hb = absurd (omega arith)
on_bits f g p q r s (suc (suc a)) b ha hb = absurd (omega arith)

xor_bits : (a b : ℕ) → a < 2 → b < 2 → bit_xor a b ≡ (a + b) % 2
xor_bits = on_bits bit_xor (λ a b. (a + b) % 2) refl refl refl refl

and_bits : (a b : ℕ) → a < 2 → b < 2 → bit_and a b ≡ a * b
and_bits = on_bits bit_and ◌*◌ refl refl refl refl

pub bit_xor_lem : (a b z : ℕ) → bit (bit_xor a b) z ≡ (bit a z + bit b z) % 2
unfolding bit
bit_xor_lem a b z =
    ap (λ (n : ℕ). n % 2) (xor_shr a b z) ∙ xor_mod (a / 2 ^ z) (b / 2 ^ z) 1 ∙ xor_bits (a / 2 ^ z % 2) (b / 2 ^ z % 2) (omega arith) (omega arith)

pub bit_and_lem : (a b z : ℕ) → bit (bit_and a b) z ≡ bit a z * bit b z
unfolding bit
bit_and_lem a b z =
    ap (λ (n : ℕ). n % 2) (and_shr a b z) ∙ and_mod (a / 2 ^ z) (b / 2 ^ z) 1 ∙ and_bits (a / 2 ^ z % 2) (b / 2 ^ z % 2) (omega arith) (omega arith)

-- ---- each bit changed

-- l is h * P + r; 2 * Q * P - 1 - l has the high part 2 * Q - 1 - h
flipped : (l h r c P Q : ℕ) → l ≡ h * P + r → r < P → c + h + 1 ≡ 2 * Q → 2 * Q * P - 1 - l ≡ c * P + (P - 1 - r)
flipped l h r c P Q e hr s =
    let m : c * P + h * P + P ≡ 2 * Q * P = sym (add-mul (c + h) 1 P ∙ ap₂ (λ (x y : ℕ). x + y) (add-mul c h P) (one-mul P)) ∙ ap (λ (x : ℕ). x * P) s in
    omega arith

pub bit_complement : (l z : ℕ) → l < 2 ^ 64 → z < 64 → bit (complement l) z ≡ (bit l z + 1) % 2
unfolding bit complement
bit_complement l z hl hz =
    let P = 2 ^ z in
    let Q = 2 ^ (63 - z) in
    let h = l / P in
    let w : 64 ≡ 1 + (63 - z) + z = omega arith in
    let e : 2 ^ 64 ≡ 2 * Q * P = ap (λ (k : ℕ). 2 ^ k) w ∙ pow-add 2 (1 + (63 - z)) z ∙ ap (λ (x : ℕ). x * P) (pow-add 2 1 (63 - z)) in
    let hh : h < 2 * Q = subst (λ (x : ℕ). h < x) (pow-add 2 1 (63 - z)) (shr_lt (1 + (63 - z)) z (subst (λ (k : ℕ). l < 2 ^ k) w hl)) in
    let c = 2 * Q - 1 - h in
    let s : c + h + 1 ≡ 2 * Q = omega arith in
    let r : l % P < P = mod-lt l (pow_pos z) in
    let f : 2 ^ 64 - 1 - l ≡ c * P + (P - 1 - l % P) = ap (λ (x : ℕ). x - 1 - l) e ∙ flipped l h (l % P) c P Q (sym (split l z)) r s in
    ap (λ (x : ℕ). x / P % 2) f ∙ ap (λ (x : ℕ). x % 2) (high c z (omega arith)) ∙ omega arith

-- ---- rotation

module _ (l n : ℕ) (hl : l < 2 ^ 64) (hn : n < 64) where
  -- the low bits go up, the high bits come in below
  parts : rotate l n ≡ (l % 2 ^ (64 - n)) * 2 ^ n + l / 2 ^ (64 - n)
  unfolding rotate
  parts =
      let e : 64 ≡ (64 - n) + n = omega arith in
      ap (λ (x : ℕ). x + l / 2 ^ (64 - n)) (ap (λ (k : ℕ). l * 2 ^ n % 2 ^ k) e ∙ kept l n (64 - n))

  coming : l / 2 ^ (64 - n) < 2 ^ n
  coming =
      let e : 64 ≡ n + (64 - n) = omega arith in
      shr_lt n (64 - n) (subst (λ (k : ℕ). l < 2 ^ k) e hl)

  pub rotate_lt : rotate l n < 2 ^ 64
  rotate_lt =
      let e : (64 - n) + n ≡ 64 = omega arith in
      rw parts (subst (λ (x : ℕ). (l % 2 ^ (64 - n)) * 2 ^ n + l / 2 ^ (64 - n) < x) (sym (pow-add 2 (64 - n) n) ∙ ap (λ (k : ℕ). 2 ^ k) e)
      (digits_lt (mod-lt l (pow_pos (64 - n))) coming))

  low_bit : (z : ℕ) → z < n → bit (rotate l n) z ≡ bit l (z + (64 - n))
  unfolding bit
  low_bit z h =
      let H = l % 2 ^ (64 - n) in
      let T = l / 2 ^ (64 - n) in
      let w : n ≡ 1 + (n - z - 1) + z = omega arith in
      let U = 2 ^ (n - z - 1) in
      let e : 2 ^ n ≡ 2 * U * 2 ^ z = ap (λ (k : ℕ). 2 ^ k) w ∙ pow-add 2 (1 + (n - z - 1)) z ∙ ap (λ (x : ℕ). x * 2 ^ z) (pow-add 2 1 (n - z - 1)) in
      let d : H * 2 ^ n + T ≡ (H * (2 * U) + T / 2 ^ z) * 2 ^ z + T % 2 ^ z =
      ap (λ (x : ℕ). H * x + T) e ∙ omega (arith, split T z) in
      let even : (H * (2 * U) + T / 2 ^ z) % 2 ≡ T / 2 ^ z % 2 = omega arith in
      ap (λ (x : ℕ). x / 2 ^ z % 2) (parts ∙ d) ∙ ap (λ (x : ℕ). x % 2) (high (H * (2 * U) + T / 2 ^ z) z (mod-lt T (pow_pos z)))
      ∙ even ∙ ap (λ (x : ℕ). x % 2) (shr-shr l (64 - n) z ∙ ap (λ (k : ℕ). l / 2 ^ k) (add_comm (64 - n) z))

  high_bit : (z : ℕ) → n ≤ z → z < 64 → bit (rotate l n) z ≡ bit l (z - n)
  unfolding bit
  high_bit z h hz =
      let H = l % 2 ^ (64 - n) in
      let T = l / 2 ^ (64 - n) in
      let w : z ≡ n + (z - n) = omega arith in
      let j : 64 - n ≡ (63 - z + 1) + (z - n) = omega arith in
      ap (λ (x : ℕ). x / 2 ^ z % 2) parts
      ∙ ap (λ (k : ℕ). (H * 2 ^ n + T) / 2 ^ k % 2) w
      ∙ ap (λ (x : ℕ). x % 2) (sym (shr-shr (H * 2 ^ n + T) n (z - n)) ∙ ap (λ (x : ℕ). x / 2 ^ (z - n)) (high H n coming)
      ∙ ap (λ (k : ℕ). l % 2 ^ k / 2 ^ (z - n)) j ∙ field l (63 - z + 1) (z - n))
      ∙ mod-mod-pow (l / 2 ^ (z - n)) (63 - z) 1

  pub bit_rotate : (z : ℕ) → z < 64 → bit (rotate l n) z ≡ bit l ((z + (64 - n)) % 64)
  bit_rotate z hz = go (dec_lt z n)
    where
      go : Dec (z < n) → bit (rotate l n) z ≡ bit l ((z + (64 - n)) % 64)
      go (yes h) = low_bit z h ∙ ap (bit l) (omega arith)
      go (no h) = high_bit z (omega arith) hz ∙ ap (bit l) (omega arith)
