-- What the contracts of inner functions and the proofs go by: no exported contract and no claim cites this file. The transform of a list of numbers modulo q, its inverse times the
-- list's length, the table of powers that both are made with, and what a product by them asks. Assumes nothing.
use Rattle.std.specs.Prelude.{◌≡◌, List, [], ◌∷◌, ◌++◌, ℕ, zero, suc, ◌+◌, ◌-◌, ◌*◌, ◌/◌, ◌%◌, ◌^◌, ◌≤◌, ◌<◌, length, get_or, take, drop}
use Rattle.codec.specs.Bytes.{Bytes}
use Rattle.codec.specs.Lists.{list}
use Rattle.modular.specs.Roots.{Root}
use Rattle.montgomery.specs.Internal.{Modulus}
use Rattle.ring.specs.Slots.{slot}
use Rattle.vector.specs.Internal.{Vector}

-- ---- lists of numbers

-- entry by entry
unfoldable pub zip : (ℕ → ℕ → ℕ) → List ℕ → List ℕ → List ℕ
zip f [] ys = []
zip f (x ∷ xs) [] = []
zip f (x ∷ xs) (y ∷ ys) = f x y ∷ zip f xs ys

-- the n numbers that stand in scratch from a place on
abbrev pub numbers : (n : ℕ) → Bytes → ℕ → List ℕ
numbers n w at = list n (slot w at)

-- 2^l
unfoldable pub two_to : ℕ → ℕ
two_to zero = 1
two_to (suc l) = two_to l + two_to l

-- ---- the transform

-- a + z b and a - z b modulo q
abbrev pub plus_twiddled : ℕ → ℕ → ℕ → ℕ → ℕ
plus_twiddled q z a b = (a + z * b % q) % q

abbrev pub minus_twiddled : ℕ → ℕ → ℕ → ℕ → ℕ
minus_twiddled q z a b = (a + (q - z * b % q)) % q

-- one level: a + z b, and then a - z b, of the halves a and b of 2m numbers
unfoldable pub level : (q z m : ℕ) → List ℕ → List ℕ
level q z m s = zip (plus_twiddled q z) (take m s) (drop m s) ++ zip (minus_twiddled q z) (take m s) (drop m s)

-- s modulo X^(2^l) - w^e, where w^N = -1: with z = w^(e / 2), X^(2^l) - w^e = (X^(2^(l - 1)) - z) (X^(2^(l - 1)) + z), and -z = w^(e / 2 + N)
unfoldable pub transform : (q w N l e : ℕ) → List ℕ → List ℕ
transform q w N zero e s = s
transform q w N (suc l) e s =
    transform q w N l (e / 2) (zip (plus_twiddled q (w ^ (e / 2))) (take (two_to l) s) (drop (two_to l) s))
    ++ transform q w N l (e / 2 + N) (zip (minus_twiddled q (w ^ (e / 2))) (take (two_to l) s) (drop (two_to l) s))

-- ---- its inverse, times 2^l

-- of u = a + z b and v = a - z b: u + v = 2 a, and (v - u) y = 2 b for y = w^(N - e / 2), as that is -1 / z
abbrev pub back_sum : ℕ → ℕ → ℕ → ℕ
back_sum q u v = (u + v) % q

abbrev pub back_twiddled : ℕ → ℕ → ℕ → ℕ → ℕ
back_twiddled q y u v = y * ((v + (q - u)) % q) % q

unfoldable pub united : (q y : ℕ) → List ℕ → List ℕ → List ℕ
united q y us vs = zip (back_sum q) us vs ++ zip (back_twiddled q y) us vs

unfoldable pub untransform : (q w N l e : ℕ) → List ℕ → List ℕ
untransform q w N zero e s = s
untransform q w N (suc l) e s =
    united q (w ^ (N - e / 2)) (untransform q w N l (e / 2) (take (two_to l) s)) (untransform q w N l (e / 2 + N) (drop (two_to l) s))

-- ---- what the functions ask

-- p holds w^k for each k below n, times 2^56
pub record Powers (q w n : ℕ) (p : List ℕ) : Type 0 where
  pub long : n ≤ length p
  pub each : (k : ℕ) → k < n → get_or p k 0 ≡ w ^ k * 72057594037927936 % q

-- what the transform modulo X^m - w^e of the m numbers at a place of scratch asks, and its inverse: m is 2^l, and the table goes up to w^n
pub record Node (q i w n m l e : ℕ) (p : List ℕ) (scratch : Bytes) (at : ℕ) : Type 0 where
  pub modulus : Modulus q i
  pub table : Powers q w (n + 1) p
  pub ring_high : n ≤ 2048
  pub power : e < n + n
  pub deep : 1 ≤ l
  pub size : m ≡ two_to l
  pub fits : at + 8 * m ≤ length scratch
  pub below : Vector q m (numbers m scratch at)

-- a modulus, a ring size and a root by which a product is made
pub record Transformable (q N w : ℕ) : Type 0 where
  pub modulus_low : 1 < q
  pub modulus_high : q < 2 ^ 56
  pub odd : q % 2 ≡ 1
  pub ring_low : 2 ≤ N
  pub ring_high : N ≤ 2048
  pub ring_power : (j : ℕ) × (N ≡ 2 ^ j)
  pub root : Root q N w
