-- What the contracts of inner functions and the proofs go by: no exported contract and no claim cites this file. Assumes nothing.
use Rattle.std.specs.Prelude.{ℕ, ◌+◌, ◌-◌, ◌*◌, ◌/◌, ◌%◌, ◌≤◌, ◌<◌, ◌≡◌}
use Rattle.modular.specs.Internal.{Coprime}

-- q is odd, p has no factor in common with it, and a noise of D and p times two masks of B do not wrap
pub record Sound (q p D B : ℕ) : Type 0 where
  pub odd : q % 2 ≡ 1
  pub positive : 0 < p
  pub apart : Coprime p q
  pub room : D + 2 * p * B ≤ (q - 1) / 2
