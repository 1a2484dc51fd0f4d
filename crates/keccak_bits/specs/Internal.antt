-- Definitions that help the proofs: no exported contract and no claim cites this file. Assumes nothing.
use Rattle.keccak.specs.Keccak.{StateArray, lane, bit}
use Rattle.keccak_bits.specs.Bits.{Bits}

-- the state array of lanes (FIPS 202, 3.1.4)
abbrev pub view : StateArray → Bits
view s x y z = bit (lane s x y) z
