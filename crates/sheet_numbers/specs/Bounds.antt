-- Document 01, "Ring and scheme" and "Sheet": the bounds that a sheet's numbers give, for the plaintext modulus p. Assumes nothing.
use Rattle.std.specs.Prelude.{Bool, true, false, cond, ℕ, zero, suc, ◌+◌, ◌*◌, ◌-◌, ◌/◌, ◌^◌, leb, eqb}

-- the noise bound D
abbrev pub noise_bound : ℕ → ℕ → ℕ
noise_bound p n = p * (2 * n + 1) + p - 1

-- the mask bound B
abbrev pub mask_bound : ℕ → ℕ → ℕ → ℕ
mask_bound p n d = 2 ^ d * noise_bound p n / (2 * p)

-- the unknowns of the shortness argument, L
abbrev pub unknown_count : ℕ → ℕ
unknown_count n = 14 * n

-- the largest m, up to n, with 3^m ≤ 2^(rounds + m)
unfoldable pub most : ℕ → ℕ → ℕ
most rounds zero = 0
most rounds (suc n) = cond (leb (3 ^ suc n) (2 ^ (rounds + suc n))) (suc n) (most rounds n)

-- the least repeats for a number of rounds (document 000, table 1); repeats are at most 256
unfoldable pub least : ℕ → ℕ
least rounds = most rounds 256

-- n is 2^j for a j below k
unfoldable pub power : ℕ → ℕ → Bool
power zero n = false
power (suc k) n = cond (eqb n (2 ^ k)) true (power k n)
