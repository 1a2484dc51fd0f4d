-- FIPS 202's own rule for the table of offsets in `Steps.antt`, and that the table is what it gives: both sides are computed. Assumes nothing.
use Rattle.std.specs.Prelude.{◌≡◌, refl, [], ℕ, zero, suc, ◌+◌, ◌*◌, ◌/◌, ◌%◌, get_or, set}
use Rattle.keccak.specs.Steps.{StateArray, lanes, offsets}

-- ---- 3.2.2, the offsets: from (x, y) = (1, 0), step t gives the offset (t + 1)(t + 2)/2 and goes on to (y, 2x + 3y)

unfoldable pub walk : ℕ → ℕ → ℕ → ℕ → StateArray → StateArray
walk zero t x y o = o
walk (suc n) t x y o = walk n (t + 1) y ((2 * x + 3 * y) % 5) (set o y (set (get_or o y []) x ((t + 1) * (t + 2) / 2 % 64)))

pub offsets_rule : walk 24 0 1 0 (lanes (λ x y. 0)) ≡ offsets
unfolding walk
offsets_rule = refl
