-- What the contracts of inner functions and the proofs go by: no exported contract and no claim cites this file. Assumes nothing.
use Rattle.std.specs.Prelude.{◌≡◌, ℕ, ◌*◌, ◌%◌, ◌<◌}
use Rattle.modular.specs.Modulo.{Same}

-- p and q have no factor in common but 1
abbrev pub Coprime : ℕ → ℕ → Type 0
Coprime p q = (f : ℕ) → p % f ≡ 0 → q % f ≡ 0 → f ≡ 1

-- calls with what they may take and give multiply numbers below q, and every product comes out times c
pub record ScaledProducts (may : ℕ → ℕ → Type 0) (gives : ℕ → ℕ → ℕ → Type 0) (q c : ℕ) : Type 0 where
  pub takes : (x y : ℕ) → x < q → y < q → may x y
  pub below : (x y z : ℕ) → x < q → y < q → gives x y z → z < q
  pub is : (x y z : ℕ) → x < q → y < q → gives x y z → Same q z (x * y * c)
