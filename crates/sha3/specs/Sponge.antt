-- SHA3-256 of FIPS 202 on messages of whole bytes: the sponge over Keccak-f[1600] with the rate of 136 bytes, the suffix 01 and pad10*1
-- (5.1, 6.1, B.2), and 32 bytes of output. A message is absorbed byte by byte (`absorb`, specs/Absorb.antt), so that it may come
-- in parts; `Fips.antt` has the sponge of section 4, block by block. Assumes nothing.
use Rattle.std.specs.Prelude.{cond, [], ◌∷◌, ◌++◌, ℕ, ◌-◌, ◌%◌, ltb, length, replicate}
use Rattle.codec.specs.Bytes.{Bytes, bytes}
use Rattle.keccak.specs.Keccak.{StateArray, lane}
use Rattle.sha3.specs.Absorb.{absorb, zero_state}

-- what follows a message that ends before place `at` of its last block: the bits 01, then 1, zeros to the block's end, and 1
unfoldable pub padding : ℕ → Bytes
padding at = cond (ltb at 135) (0x06 ∷ replicate (134 - at) 0 ++ (0x80 ∷ [])) (0x86 ∷ [])

-- the first 32 bytes of the state
unfoldable pub squeeze : StateArray → Bytes
squeeze s = bytes 8 (lane s 0 0) ++ (bytes 8 (lane s 1 0) ++ (bytes 8 (lane s 2 0) ++ bytes 8 (lane s 3 0)))

unfoldable pub sha3 : Bytes → Bytes
sha3 m = squeeze (absorb zero_state 0 (m ++ padding (length m % 136)))
