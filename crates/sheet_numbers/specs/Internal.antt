-- What the contracts of inner functions and the proofs go by: no exported contract and no claim cites this file. Assumes nothing.
use Rattle.std.specs.Prelude.{◌≡◌, true, ◌%◌, ◌<◌}
use Rattle.modular.specs.Internal.{Coprime}
use Rattle.sheet_numbers.specs.Bounds.{power}
use Rattle.sheet_numbers.specs.Plain.{plain}
use Rattle.sheet_numbers.specs.Ranges.{NumbersInRange}
use Rattle.sheet_numbers.specs.declared.Numbers.{Numbers}

-- ---- what the functions that are lent a sheet's numbers rely on: it holds where the sheet was taken

pub record Usable (k : Numbers) : Type 0 where
  pub in_range : NumbersInRange k
  -- the ring is a power of two, as the code tests it
  pub ring_found : power 12 k.ring ≡ true
  -- 2N divides q - 1
  pub odd : k.modulus % 2 ≡ 1
  -- p is at most D, which is below (q - 1)/2, and has no factor in common with q
  pub plain_below : plain k < k.modulus
  pub apart : Coprime (plain k) k.modulus
