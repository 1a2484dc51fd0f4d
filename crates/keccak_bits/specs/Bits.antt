-- FIPS 202, section 3.2, as it is written there: the step mappings on the state array A[x, y, z] of single bits. Assumes nothing.
use Rattle.std.specs.Prelude.{cond, ◌&&◌, ℕ, zero, suc, ◌+◌, ◌-◌, ◌*◌, ◌%◌, eqb, get_or}
use Rattle.keccak.specs.Keccak.{lane, bit, offsets, constants}

-- A x y z is the bit A[x, y, z]
abbrev pub Bits : Type 0
Bits = ℕ → ℕ → ℕ → ℕ

-- exclusive or of bits
infixl 60 ◌⊕◌
abbrev pub ◌⊕◌ : ℕ → ℕ → ℕ
a ⊕ b = (a + b) % 2

-- 3.2.1
unfoldable pub column_parity : Bits → ℕ → ℕ → ℕ
column_parity A x z = A x 0 z ⊕ A x 1 z ⊕ A x 2 z ⊕ A x 3 z ⊕ A x 4 z

unfoldable pub theta : Bits → Bits
theta A x y z = A x y z ⊕ (column_parity A ((x + 4) % 5) z ⊕ column_parity A ((x + 1) % 5) ((z + 63) % 64))

-- 3.2.2
unfoldable pub rho : Bits → Bits
rho A x y z = A x y ((z + (64 - lane offsets x y)) % 64)

-- 3.2.3
unfoldable pub pi : Bits → Bits
pi A x y z = A ((x + 3 * y) % 5) x z

-- 3.2.4
unfoldable pub chi : Bits → Bits
chi A x y z = A x y z ⊕ (A ((x + 1) % 5) y z ⊕ 1) * A ((x + 2) % 5) y z

-- 3.2.5: the constant's bits go into the lane (0, 0)
unfoldable pub iota : Bits → ℕ → Bits
iota A c x y z = cond (eqb x 0 && eqb y 0) (A x y z ⊕ bit c z) (A x y z)

-- 3.3 and 3.4
unfoldable pub round : Bits → ℕ → Bits
round A c = iota (chi (pi (rho (theta A)))) c

unfoldable pub rounds : ℕ → Bits → Bits
rounds zero A = A
rounds (suc n) A = round (rounds n A) (get_or constants n 0)
