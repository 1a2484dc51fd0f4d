-- The sponge of FIPS 202, section 4, is the one of `Sponge.antt`. Assumes nothing.
use mathlib.Core.Path.{◌≡◌, refl, ap}
use mathlib.Core.List.{◌++◌}
use Prim.Native.Nat.{◌+◌, ◌*◌, ◌/◌, ◌%◌}
use native.Mathlib.Omega.{arith}
use lib.ListN.{length, length-append}
use Rattle.codec.specs.Bytes.{Bytes, Octets}
use Rattle.codec.proofs.Laws.{octets_append}
use Rattle.keccak.proofs.Shape.{Shape, shape_of}
use Rattle.sha3.specs.Absorb.{zero_state}
use Rattle.sha3.proofs.Blocks.{blocks}
use Rattle.sha3.specs.Fips.{sponge}
use Rattle.sha3.specs.Sponge.{padding, squeeze, sha3}
use Rattle.sha3.proofs.Padding.{length_padding, octets_padding}

zero_shape : Shape zero_state
unfolding zero_state
zero_shape = shape_of _ _ _ _ _ refl refl refl refl refl

pub sponge_is_sha3 : (m : Bytes) → Octets m → sponge m ≡ sha3 m
unfolding sponge sha3
sponge_is_sha3 m o =
    let at = length m % 136 in
    let l = length_padding at (omega arith) in
    let p = m ++ padding at in
    let w : length p ≡ 136 * (length m / 136 + 1) = rw length-append (omega arith) in
    ap squeeze (blocks (length m / 136 + 1) zero_state p zero_shape (octets_append m (padding at) o (octets_padding at)) w)
