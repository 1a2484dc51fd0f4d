-- The sponge of FIPS 202 on messages of whole bytes, over Keccak-f[1600] and with the rate of SHA3-256, 136 bytes: its state and what it absorbs.
-- A message is absorbed byte by byte, so that it may come in parts; specs/Fips.antt has it block by block, as section 4. Assumes nothing.
use Rattle.std.specs.Prelude.{cond, [], ◌∷◌, ℕ, ◌+◌, ◌*◌, ◌/◌, ◌%◌, ◌^◌, ltb, get_or, set}
use Rattle.std.specs.Int.Bits.{bit_xor}
use Rattle.codec.specs.Bytes.{Bytes}
use Rattle.keccak.specs.Keccak.{StateArray, lane, lanes, keccak}

-- the state of zeros
unfoldable pub zero_state : StateArray
zero_state = lanes (λ x y. 0)

-- a lane with the byte b xored into its byte k, the lowest of which is byte 0
unfoldable pub xor_lane : ℕ → ℕ → ℕ → ℕ
xor_lane l k b = bit_xor l (b * 2 ^ (k * 8))

-- a state with the byte b xored into its byte i, which is in column i / 8 % 5 of row i / 40 (3.1.2, B.1)
unfoldable pub xor_byte : StateArray → ℕ → ℕ → StateArray
xor_byte s i b = set s (i / 40) (set (get_or s (i / 40) []) (i / 8 % 5) (xor_lane (lane s (i / 8 % 5) (i / 40)) (i % 8) b))

-- one byte of a message at place `at` of its block of 136: after the last of a block comes the permutation
unfoldable pub feed : StateArray → ℕ → ℕ → StateArray
feed s at b = cond (ltb at 135) (xor_byte s at b) (keccak (xor_byte s at b))

-- bytes of a message, the first at place `at` of its block
unfoldable pub absorb : StateArray → ℕ → Bytes → StateArray
absorb s at [] = s
absorb s at (b ∷ m) = absorb (feed s at b) ((at + 1) % 136) m
