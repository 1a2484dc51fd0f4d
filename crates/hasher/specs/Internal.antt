-- What the contracts of inner functions and the proofs go by: no exported contract and no claim cites this file. Assumes nothing.
use Rattle.std.specs.Prelude.{ℕ, ◌+◌, ◌%◌, length}
use Rattle.codec.specs.Bytes.{Bytes}
use Rattle.keccak.specs.Keccak.{StateArray}
use Rattle.sha3.specs.Absorb.{absorb, zero_state}
use Rattle.sha3.specs.Sponge.{padding, squeeze}
use Rattle.hasher.specs.declared.Hasher.{Hasher}

-- ---- a hasher: the sponge of SHA3-256 (FIPS 202, section 4) between two parts of a message, for hashing a message that comes in parts. Its place is where the next byte goes in the block of 136 bytes; a number of 136 or more stands for its remainder

-- the hasher of a state and a place
abbrev pub made : StateArray → ℕ → Hasher
made s p = record { state = s; place = p }

-- the hasher that has taken in the string m, from the state of zeros
unfoldable pub holding : Bytes → Hasher
holding m = made (absorb zero_state 0 m) (length m % 136)

-- a hasher after the string m more
unfoldable pub updated : Hasher → Bytes → Hasher
updated h m = made (absorb h.state (h.place % 136) m) ((h.place + length m) % 136)

-- the digest: the padding is absorbed, and 32 bytes are squeezed
unfoldable pub finished : Hasher → Bytes
finished h = squeeze (absorb h.state (h.place % 136) (padding (h.place % 136)))
