-- Keccak-f[1600] of FIPS 202, section 3: the step mappings of 3.2 (specs/Steps.antt), the round and the permutation of 24 rounds. Assumes nothing.
use Rattle.std.specs.Prelude.{ℕ, zero, suc, List, [], ◌∷◌, get_or}
pub use Rattle.keccak.specs.Steps.{Row, StateArray, lane, five, lanes, offsets, pi}
unfoldable pub use Rattle.keccak.specs.Steps.{bit, rotate, complement, xor_row, parity, effect, theta, rho_row, rho, chi_row, chi, iota}

-- ---- 3.3 and 3.4, the permutation of 24 rounds

unfoldable pub round : StateArray → ℕ → StateArray
round s c = iota (chi (pi (rho (theta s)))) c

-- RC of the rounds 0 .. 23
abbrev pub constants : List ℕ
constants =
    0x0000000000000001 ∷ 0x0000000000008082 ∷ 0x800000000000808A ∷ 0x8000000080008000
    ∷ 0x000000000000808B ∷ 0x0000000080000001 ∷ 0x8000000080008081 ∷ 0x8000000000008009
    ∷ 0x000000000000008A ∷ 0x0000000000000088 ∷ 0x0000000080008009 ∷ 0x000000008000000A
    ∷ 0x000000008000808B ∷ 0x800000000000008B ∷ 0x8000000000008089 ∷ 0x8000000000008003
    ∷ 0x8000000000008002 ∷ 0x8000000000000080 ∷ 0x000000000000800A ∷ 0x800000008000000A
    ∷ 0x8000000080008081 ∷ 0x8000000000008080 ∷ 0x0000000080000001 ∷ 0x8000000080008008
    ∷ []

-- the first n rounds
unfoldable pub rounds : ℕ → StateArray → StateArray
rounds zero s = s
rounds (suc n) s = round (rounds n s) (get_or constants n 0)

unfoldable pub keccak : StateArray → StateArray
keccak s = rounds 24 s
