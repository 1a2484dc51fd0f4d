-- FIPS 202's own rule for the table of constants in `Keccak.antt`, and that the table is what it gives: both sides are computed. Assumes nothing.
use Rattle.std.specs.Prelude.{◌≡◌, refl, ℕ, zero, suc, ◌+◌, ◌*◌, ◌/◌, ◌%◌, ◌^◌}
use Rattle.std.specs.Int.Bits.{bit_xor}
use Rattle.codec.specs.Lists.{list}
use Rattle.keccak.specs.Keccak.{constants}

-- ---- 3.2.5, algorithm 5: a register of eight bits, R[0] lowest, that is shifted up; where R[8] is set, R[0], R[4], R[5] and R[6] change

unfoldable pub reduce : ℕ → ℕ → ℕ
reduce zero r = r
reduce (suc top) r = bit_xor r 0x71

unfoldable pub shift_register : ℕ → ℕ
shift_register zero = 1
shift_register (suc t) = let r = shift_register t in reduce (r / 128) (r * 2 % 256)

-- rc(t), the lowest bit after t steps. Algorithm 5 takes t mod 255 steps; the constants of 24 rounds ask for t up to 6 + 7 * 23 = 167, where t mod 255 is t
unfoldable pub rc : ℕ → ℕ
rc t = shift_register t % 2

-- algorithm 6: bit 2^j - 1 of round k's constant is rc(j + 7k), j = 0 .. 6
unfoldable pub constant : ℕ → ℕ
constant k =
    rc (7 * k) * 2 ^ 0 + rc (1 + 7 * k) * 2 ^ 1 + rc (2 + 7 * k) * 2 ^ 3 + rc (3 + 7 * k) * 2 ^ 7 + rc (4 + 7 * k) * 2 ^ 15
    + rc (5 + 7 * k) * 2 ^ 31 + rc (6 + 7 * k) * 2 ^ 63

pub constants_rule : list 24 constant ≡ constants
unfolding list constant rc shift_register reduce
constants_rule = refl
