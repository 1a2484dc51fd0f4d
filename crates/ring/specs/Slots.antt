-- The polynomial as coefficients, as a list and as bytes, and slots of 8N bytes in scratch (document 01, "Layouts"). Assumes nothing.
use Rattle.std.specs.Prelude.{ℕ, ◌+◌, ◌*◌}
use Rattle.codec.specs.Bytes.{Bytes, words, number, part}
use Rattle.codec.specs.Lists.{list}
use Rattle.ring.specs.Poly.{Poly, modulo}

-- the polynomial that bytes hold: coefficient i is the 8 bytes at 8 * i, the least first
unfoldable pub poly : Bytes → Poly
poly s i = number (part s (8 * i) 8)

-- the polynomial that stands in a slot, from a place of the scratch on
unfoldable pub slot : Bytes → ℕ → Poly
slot w at i = number (part w (at + 8 * i) 8)

-- the 8n bytes of a polynomial
unfoldable pub encode : ℕ → Poly → Bytes
encode n a = words (list n a)

-- the 8n bytes of a polynomial modulo q: how every polynomial is written
abbrev pub coefficient_bytes : (q n : ℕ) → Poly → Bytes
coefficient_bytes q n a = encode n (modulo q a)
