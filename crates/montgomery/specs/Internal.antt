-- What the contracts of inner functions and the proofs go by: no exported contract and no claim cites this file. Assumes nothing.
use Rattle.std.specs.Prelude.{◌≡◌, ℕ, ◌+◌, ◌*◌, ◌/◌, ◌%◌, ◌^◌, ◌<◌}

-- 1 / 2 modulo an odd q, and 1 / 2^56
unfoldable pub half : ℕ → ℕ
half q = (q + 1) / 2

unfoldable pub radix_inverse : ℕ → ℕ
radix_inverse q = half q ^ 56

-- what a product asks of q, and of i: that it is -1 / q modulo 2^28
pub record Modulus (q i : ℕ) : Type 0 where
  pub small : q < 2 ^ 56
  pub odd : q % 2 ≡ 1
  pub inverse : (q * i + 1) % 268435456 ≡ 0
  pub digit : i < 268435456
