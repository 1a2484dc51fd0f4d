-- The commitment to a polynomial m with three short polynomials and three public ones (document 01, "Ring and scheme"), with N and q as
-- parameters. Assumes nothing.
use Rattle.std.specs.Prelude.{Bool, ◌++◌, ℕ, ◌*◌}
use Rattle.codec.specs.Bytes.{Bytes, part, same}
use Rattle.ring.specs.Poly.{Poly, plus, minus, mul, Alike}
use Rattle.ring.specs.Slots.{coefficient_bytes, slot}
use Rattle.ring.specs.Ternary.{ternary}

-- the public k1, k2, k3
pub record Keys : Type 0 where
  pub k1 : Poly
  pub k2 : Poly
  pub k3 : Poly

-- the three polynomials that hide m
pub record Three : Type 0 where
  pub r1 : Poly
  pub r2 : Poly
  pub r3 : Poly

-- the public polynomials in 24N bytes, and the hiding ones in 3N ternary bytes
abbrev pub keys_of : ℕ → Bytes → Keys
keys_of N k = record { k1 = slot k 0; k2 = slot k (8 * N); k3 = slot k (16 * N) }

abbrev pub three_of : ℕ → ℕ → Bytes → Three
three_of q N r = record { r1 = ternary q (part r 0 N); r2 = ternary q (part r N N); r3 = ternary q (part r (2 * N) N) }

abbrev pub plus3 : Three → Three → Three
plus3 x y = record { r1 = plus x.r1 y.r1; r2 = plus x.r2 y.r2; r3 = plus x.r3 y.r3 }

abbrev pub minus3 : ℕ → Three → Three → Three
minus3 q x y = record { r1 = minus q x.r1 y.r1; r2 = minus q x.r2 y.r2; r3 = minus q x.r3 y.r3 }

pub record Alike3 (q N : ℕ) (x y : Three) : Type 0 where
  pub r1 : Alike q N x.r1 y.r1
  pub r2 : Alike q N x.r2 y.r2
  pub r3 : Alike q N x.r3 y.r3

pub record Pair : Type 0 where
  pub one : Poly
  pub two : Poly

-- r1 + k1 r2 + k2 r3: the row, which m does not enter
unfoldable pub row : (q N : ℕ) → Keys → Three → Poly
row q N k r = plus (plus r.r1 (mul q N k.k1 r.r2)) (mul q N k.k2 r.r3)

-- r2 + k3 r3 + m
unfoldable pub second : (q N : ℕ) → Keys → Three → Poly → Poly
second q N k r m = plus (plus r.r2 (mul q N k.k3 r.r3)) m

-- the pair that is published
abbrev pub committed : (q N : ℕ) → Keys → Three → Poly → Pair
committed q N k r m = record { one = row q N k r; two = second q N k r m }

-- a pair in 16N bytes, first half first
unfoldable pub pair_bytes : (q N : ℕ) → Pair → Bytes
pair_bytes q N c = coefficient_bytes q N c.one ++ coefficient_bytes q N c.two

-- the pair that 16N bytes hold
abbrev pub pair_of : ℕ → Bytes → Pair
pair_of N c = record { one = slot c 0; two = slot c (8 * N) }

-- the pair c is that of m and r
pub record Opens (q N : ℕ) (k : Keys) (c : Pair) (r : Three) (m : Poly) : Type 0 where
  pub one : Alike q N c.one (row q N k r)
  pub two : Alike q N c.two (second q N k r m)

-- the test of an opening, on the bytes of a pair
unfoldable pub opens : (q N : ℕ) → Keys → Bytes → Three → Poly → Bool
opens q N k c r m = same c (pair_bytes q N (committed q N k r m))
