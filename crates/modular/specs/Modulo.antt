-- Numbers modulo q and their centred form (document 01, "Ring and scheme"). A number modulo q is any ℕ, and -x is (q - 1) * x. Assumes nothing.
use Rattle.std.specs.Prelude.{◌≡◌, ℕ, suc, ◌-◌, ◌/◌, ◌%◌, cond, ℤ, pos, negsuc, ◌-ℤ◌, nat_le}

-- x and y are the same modulo q. A record, so that a proof's type shows x and y
pub record Same (q x y : ℕ) : Type 0 where
  pub is : x % q ≡ y % q

-- the centred form: the whole number congruent to x in -(q - 1) / 2 .. (q - 1) / 2
unfoldable pub centre : ℕ → ℕ → ℤ
centre q x = cond (nat_le (x % q) ((q - 1) / 2)) (pos (x % q)) (pos (x % q) -ℤ pos q)

-- the remainder by p, never negative: -3 by 2 is 1. By q it is the number below q that stands for z
unfoldable pub remainder : ℕ → ℤ → ℕ
remainder p (pos n) = n % p
remainder p (negsuc n) = (p - suc n % p) % p
