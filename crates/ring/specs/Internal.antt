-- What the contracts of inner functions and the proofs go by: no exported contract and no claim cites this file. Assumes nothing.
use Rattle.std.specs.Prelude.{Bool, cond, ℕ, ◌-◌, ◌+◌, ◌*◌, ◌≤◌, ◌⊎◌, eqb, length}
use Rattle.codec.specs.Bytes.{Bytes, signed, put}
use Rattle.modular.specs.Modulo.{remainder}
use Rattle.ring.specs.Poly.{Poly}
use Rattle.ring.specs.Slots.{poly, coefficient_bytes}

-- ---- a sign, signed numbers, slots of scratch, the polynomial 1

-- 1, or -1 modulo q
abbrev pub sign : ℕ → Bool → ℕ
sign q minus = cond minus (q - 1) 1

-- the polynomial modulo q of signed 64-bit numbers in two's complement, as masks are lent
unfoldable pub from_signed : ℕ → Bytes → Poly
from_signed q s i = remainder q (signed (poly s i))

-- scratch w with a modulo q in the slot at a place
unfoldable pub store : (q n : ℕ) → Bytes → ℕ → Poly → Bytes
store q n w at a = put w at (coefficient_bytes q n a)

-- two slots of 8n bytes lie in scratch w and do not meet
pub record Slots (n at from : ℕ) (w : Bytes) : Type 0 where
  pub one : at + 8 * n ≤ length w
  pub other : from + 8 * n ≤ length w
  pub apart : (from + 8 * n ≤ at) ⊎ (at + 8 * n ≤ from)

-- the polynomial 1, the unit of the product
unfoldable pub one_poly : Poly
one_poly = λ k. cond (eqb k 0) 1 0
