-- Roots of X^N + 1 modulo q (document 02, L2: "a lent root w for which w^N is -1 modulo q"). Assumes nothing.
use Rattle.std.specs.Prelude.{ℕ, ◌-◌, ◌%◌, ◌^◌, ◌<◌, Bool, ◌&&◌, ◌==◌, nat_lt}
use Rattle.modular.specs.Modulo.{Same}

-- w is below q, and w^N is -1 modulo q
pub record Root (q N w : ℕ) : Type 0 where
  pub below : w < q
  pub minus_one : Same q (w ^ N) (q - 1)

-- whether it is, for a q above 0
unfoldable pub is_root : (q N w : ℕ) → Bool
is_root q N w = nat_lt w q && w ^ N % q == q - 1
