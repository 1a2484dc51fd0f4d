-- What a sheet's numbers give (document 01, "Ring and scheme"): the plaintext modulus p, and the bounds D and B for it. Assumes nothing.
use Rattle.std.specs.Prelude.{ℕ}
use Rattle.sheet_numbers.specs.Bounds.{noise_bound, mask_bound}
use Rattle.sheet_numbers.specs.declared.Numbers.{Numbers}

-- p: every sheet's is 2
unfoldable pub plain : Numbers → ℕ
plain k = 2

-- D
abbrev pub noise_bound_of : Numbers → ℕ
noise_bound_of k = noise_bound (plain k) k.ring

-- B
abbrev pub mask_bound_of : Numbers → ℕ
mask_bound_of k = mask_bound (plain k) k.ring k.drown
