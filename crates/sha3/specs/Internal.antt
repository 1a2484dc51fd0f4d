-- What the contracts of inner functions and the proofs go by: no exported contract and no claim cites this file. Assumes nothing.
use Rattle.std.specs.Prelude.{ℕ, zero, suc, ◌+◌, ◌*◌, take, drop, get_or}
use Rattle.std.specs.Int.Bits.{bit_xor}
use Rattle.codec.specs.Bytes.{Bytes, number, part}
use Rattle.keccak.specs.Keccak.{Row, StateArray, lane, five, lanes, keccak}

-- ---- absorbing as in FIPS 202, section 4 (algorithm 8), on whole bytes: a block of 136 bytes at a time

-- S xor (P || 0 .. 0): the lane in column x of row y has the 8 bytes of the state from 8 (5 y + x), the lowest first (3.1.2, B.1)
unfoldable pub xor_block : StateArray → Bytes → StateArray
xor_block s p = lanes (λ x y. bit_xor (lane s x y) (number (part p (8 * (5 * y + x)) 8)))

-- a row with the 40 bytes of m from `at` xored in
unfoldable pub absorb_row : Row → Bytes → ℕ → Row
absorb_row r m at = five (λ x. bit_xor (get_or r x 0) (number (part m (at + 8 * x) 8)))

-- step 6: n blocks, each followed by the permutation
unfoldable pub absorb_blocks : ℕ → StateArray → Bytes → StateArray
absorb_blocks zero s p = s
absorb_blocks (suc n) s p = absorb_blocks n (keccak (xor_block s (take 136 p))) (drop 136 p)
