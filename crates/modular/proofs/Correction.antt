-- A number below 2q less q where it reaches q, by a mask of all bits or none. Assumes nothing.
use Rattle.std.proofs.Common.{◌≡◌, ℕ, ◌+◌, ◌-◌, ◌/◌, ◌%◌, ◌^◌, ◌<◌, ◌≤◌, ap, ◌∙◌, mod-eq_of_lt, arith}
use native.Mathlib.Decide.{dec_lt}
use native.Mathlib.Nat.{mod-eq-sub-mod}
use lib.Bits.{bit_and, and_comm, and_mask, and_zero_l}

-- 1 where x is at least q, and else 0
abbrev pub over : ℕ → ℕ → ℕ
over x q = (x + 4611686018427387904 - q) / 4611686018427387904

-- m is 0 less that, in 64 bits
pub masked : (x q m : ℕ) → q < 2 ^ 56 → x < q + q → m < 2 ^ 64 → (m + over x q) % 2 ^ 64 ≡ 0 → (bit_and m q ≤ x) × (x - bit_and m q ≡ x % q) × (x - bit_and m q < q)
masked x q m h l f e = go (dec_lt x q)
  where
    go : Dec (x < q) → (bit_and m q ≤ x) × (x - bit_and m q ≡ x % q) × (x - bit_and m q < q)
    go (yes s) =
        let z : m ≡ 0 = omega arith in
        let b : bit_and m q ≡ 0 = ap (λ (n : ℕ). bit_and n q) z ∙ and_zero_l q in
        rw b (omega arith, omega (arith, mod-eq_of_lt s), omega arith)
    go (no n) =
        let z : m ≡ 18446744073709551615 = omega arith in
        let b : bit_and m q ≡ q = ap (λ (n : ℕ). bit_and n q) z ∙ and_comm 18446744073709551615 q ∙ and_mask q 64 ∙ mod-eq_of_lt (omega arith) in
        rw b (omega arith, omega (arith, mod-eq-sub-mod {n = x} {m = q} (omega arith), mod-eq_of_lt {n = x - q} {m = q} (omega arith)), omega arith)
