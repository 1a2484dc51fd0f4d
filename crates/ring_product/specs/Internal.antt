-- What the contracts of inner functions and the proofs go by: no exported contract and no claim cites this file. Assumes nothing.
use Rattle.std.specs.Prelude.{◌≡◌, ℕ, ◌+◌, ◌*◌, ◌≤◌, ◌<◌}
use Rattle.ring.specs.Poly.{Poly, sum}

-- ---- sums of products by digits to the base 2^28

-- the number with three digits, of any size
abbrev pub three_digits : ℕ → ℕ → ℕ → ℕ
three_digits lo mid hi = lo + (mid + hi * 268435456) * 268435456

-- three columns that make the sum of the first n products of a and b; a column grows by at most so much with each product
unfoldable pub Columns : (a b : Poly) (n lo mid hi : ℕ) → Type 0
Columns a b n lo mid hi =
    (lo ≤ 72057593501057025 * n) × (mid ≤ 144115187002114050 * n) × (hi ≤ 72057593501057025 * n) × (three_digits lo mid hi ≡ sum n (λ i. a i * b i))

-- four digits that make that sum, the lower three below the base
unfoldable pub Digits : (a b : Poly) (n d0 d1 d2 d3 : ℕ) → Type 0
Digits a b n d0 d1 d2 d3 =
    (d0 < 268435456) × (d1 < 268435456) × (d2 < 268435456) × (d3 ≤ 68719476736 * n)
    × (d0 + (d1 + (d2 + d3 * 268435456) * 268435456) * 268435456 ≡ sum n (λ i. a i * b i))
