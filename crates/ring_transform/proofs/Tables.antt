-- The table of powers of a root, each times 2^56, and the exponent of a power of two. Assumes nothing.
use mathlib.Core.Path.{◌≡◌, refl, sym, ap, ◌∙◌}
use mathlib.Core.List.{List}
use Prim.Native.Nat.{ℕ, zero, suc, ◌+◌, ◌*◌, ◌%◌, ◌^◌, ◌≤◌, ◌<◌}
use native.Mathlib.Decide.{dec_lt, ℕ_discrete}
use borrow.Author.Count.{below_more}
use Rattle.std.specs.Int.{w64, bit_at, trailing_zeros}
use Rattle.std.proofs.lemmas.Nat.Bits.{bit_at-trailing_zeros, bit_at-pow_other}
use native.Mathlib.Nat.{mul_assoc, mul_comm, mul_left_comm, one-mul, pow-zero, pow-succ', pow-le-pow_right, one-le-pow}
use native.Mathlib.Omega.{arith}
use lib.ListN.{length, set, length-set}
use lib.Pow.{pow-add}
use lib.Seq.{get_or-set_same, get_or-set_other}
use Rattle.modular.proofs.Congruence.{same_refl, same_eq, same_mod, same_mul, ◌then◌}
use Rattle.montgomery.specs.Internal.{Modulus, radix_inverse}
use Rattle.montgomery.proofs.Reduction.{radix_times}
use Rattle.ring_transform.specs.Internal.{two_to, Powers}

-- ---- the table

-- one power more
pub powers_next : {q w n x : ℕ} {p : List ℕ} → Powers q w n p → n < length p → x ≡ w ^ n * 72057594037927936 % q → Powers q w (n + 1) (set p n x)
powers_next {q} {w} {n} {x} {p} s h e = record {
  long = simp length-set (omega arith);
  each = below_more _ n (λ k l. get_or-set_other p n k x 0 (omega arith) ∙ s.each k l) (get_or-set_same p n x 0 h ∙ e);
}

-- two powers multiplied by Montgomery's product
pub powers_product : {q i : ℕ} (w m n : ℕ) {x z r : ℕ} → Modulus q i → z ≡ w ^ m * 72057594037927936 % q → x ≡ w ^ n * 72057594037927936 % q → r ≡ z * radix_inverse q * x % q
    → r ≡ w ^ (m + n) * 72057594037927936 % q
powers_product {q} w m n mo ez ex er =
    er ∙ (same_mul (same_mul (same_eq ez then same_mod) (same_refl {x = radix_inverse q})) (same_eq ex then same_mod)
    then same_eq (regroup (w ^ m) (w ^ n) 72057594037927936 (radix_inverse q)) then same_mul (radix_times q mo.odd) same_refl
    then same_eq (one-mul _ ∙ ap (λ (k : ℕ). k * 72057594037927936) (sym (pow-add w m n)))).is
  where
    regroup : (a b r u : ℕ) → a * r * u * (b * r) ≡ u * r * (a * b * r)
    regroup a b r u = simp (mul_assoc, mul_comm, mul_left_comm)

-- the first two
pub power_none : (q w : ℕ) {x : ℕ} → x ≡ 2 ^ 56 % q → x ≡ w ^ 0 * 72057594037927936 % q
power_none q w e = e ∙ ap (λ (n : ℕ). n % q) (sym (ap (λ (n : ℕ). n * 72057594037927936) (pow-zero w)))

pub power_one : {q i : ℕ} (w : ℕ) {d z : ℕ} → Modulus q i → d ≡ 2 ^ 112 % q → z ≡ d * radix_inverse q * w % q → z ≡ w ^ 1 * 72057594037927936 % q
power_one {q} w mo ed ez =
    ez ∙ (same_mul (same_mul (same_eq ed then same_mod then same_eq square) (same_refl {x = radix_inverse q})) (same_refl {x = w})
    then same_eq (regroup 72057594037927936 (radix_inverse q)) then same_mul (radix_times q mo.odd) same_refl
    then same_eq (one-mul _ ∙ ap (λ (k : ℕ). k * 72057594037927936) (sym (pow-succ' w 0 ∙ ap (λ (k : ℕ). w * k) (pow-zero w) ∙ native.Mathlib.Nat.mul-one w)))).is
  where
    square : 2 ^ 112 ≡ 72057594037927936 * 72057594037927936
    square = refl

    regroup : (r u : ℕ) → r * r * u * w ≡ u * r * (w * r)
    regroup r u = simp (mul_assoc, mul_comm, mul_left_comm)

pub powers_fewer : {q w m n : ℕ} {p : List ℕ} → m ≤ n → Powers q w n p → Powers q w m p
powers_fewer h s = record { long = omega (arith, s.long); each = λ k l. s.each k (omega arith) }

-- ---- the exponent

pub two_power : (l : ℕ) → two_to l ≡ 2 ^ l
unfolding two_to
two_power zero = sym (pow-zero 2)
two_power (suc l) = omega (arith, two_power l, pow-succ' 2 l)

-- the lowest bit of a power of two is its only one
pub lowest_of_power : (j : ℕ) {n : ℕ} → n ≡ 2 ^ j → n < 2 ^ 64 → trailing_zeros w64 n ≡ j
lowest_of_power j {n} e h = go (ℕ_discrete (trailing_zeros w64 n) j)
  where
    lowest : bit_at n (trailing_zeros w64 n) ≡ 1
    lowest = (bit_at-trailing_zeros w64 n (omega (arith, e, one-le-pow j 2 (omega arith))) h).1

    go : Dec (trailing_zeros w64 n ≡ j) → trailing_zeros w64 n ≡ j
    go (yes k) = k
    go (no k) = absurd (omega (arith, lowest, ap (λ (m : ℕ). bit_at m (trailing_zeros w64 n)) e, bit_at-pow_other j (trailing_zeros w64 n) k))

pub power_bound : (l : ℕ) {m : ℕ} → m ≡ 2 ^ l → m ≤ 2048 → l ≤ 11
power_bound l {m} e h = go (dec_lt 11 l)
  where
    go : Dec (11 < l) → l ≤ 11
    go (yes k) = absurd (omega (arith, e, pow-le-pow_right {n = 2} (omega arith) {i = 12} {j = l} (omega arith)))
    go (no k) = omega arith

pub power_low : (l : ℕ) {m : ℕ} → m ≡ 2 ^ l → 2 ≤ m → 1 ≤ l
power_low zero e h = absurd (omega (arith, e, pow-zero 2))
power_low (suc l) e h = omega arith
