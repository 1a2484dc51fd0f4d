-- Division by p modulo q, for any p that has no factor in common with q (document 01, refusal 12: a mask "worked out from t_i"). Assumes nothing.
use Rattle.std.specs.Prelude.{ℕ, zero, suc, ◌+◌, ◌*◌, ◌/◌, ◌%◌, cond, ◌==◌}

-- the k below n with 1 + q * k a multiple of p, the largest; 0 if there is none
unfoldable pub multiplier : (q p n : ℕ) → ℕ
multiplier q p zero = 0
multiplier q p (suc n) = cond ((1 + q * n) % p == 0) n (multiplier q p n)

-- 1 / p modulo q
unfoldable pub inverse : (q p : ℕ) → ℕ
inverse q p = (1 + q * multiplier q p p) / p

-- x / p modulo q
unfoldable pub divide : (q p x : ℕ) → ℕ
divide q p x = x * inverse q p % q
