-- A sheet that was taken with the numbers k, and the bytes that its polynomials were put into: a, b, k1, k2, k3, end to end. Assumes nothing.
use Rattle.std.specs.Prelude.{◌*◌}
use Rattle.codec.specs.Bytes.{Bytes, part}
use Rattle.sheet_numbers.specs.declared.Numbers.{Numbers}

module _ (k : Numbers) (public : Bytes) where
  abbrev pub a_of : Bytes
  a_of = part public 0 (8 * k.ring)

  abbrev pub b_of : Bytes
  b_of = part public (8 * k.ring) (8 * k.ring)

  abbrev pub key_bytes : Bytes
  key_bytes = part public (16 * k.ring) (24 * k.ring)
