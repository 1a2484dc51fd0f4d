-- Permutations of entries, and ternary bytes with as many of each (document 01, "One round"). Assumes nothing.
use Rattle.std.specs.Prelude.{◌≡◌, Bool, ◌&&◌, List, ◌++◌, map, ℕ, ◌-◌, ◌*◌, ◌/◌, ◌<◌, eqb, length, get_or, replicate}
use Rattle.codec.specs.Bytes.{Bytes, number, part, same}
use Rattle.codec.specs.Lists.{list}
use Rattle.ring.specs.Ternary.{count}
use Rattle.vector.specs.Vector.{Each}

-- the entries of a permutation, 4 bytes each, the least first
unfoldable pub entries : Bytes → List ℕ
entries s = list (length s / 4) (λ i. number (part s (4 * i) 4))

-- n entries: each of 0 .. n - 1 once
pub record Permutes (n : ℕ) (p : List ℕ) : Type 0 where
  pub indices : Each (λ i. i < n) n p
  pub once : (i : ℕ) → i < n → count i p ≡ 1

-- the same as a test
unfoldable pub permutes : ℕ → List ℕ → Bool
permutes n p = eqb (length p) n && same (list n (λ i. count i p)) (replicate n 1)

-- entry i of p(x) is entry p[i] of x
unfoldable pub apply : List ℕ → List ℕ → List ℕ
apply p x = map (λ i. get_or x i 0) p

-- ternary bytes x, and -1s, then 0s, then 1s, until there are L of each
unfoldable pub extend : ℕ → Bytes → Bytes
extend L x = x ++ (replicate (L - count 2 x) 2 ++ (replicate (L - count 0 x) 0 ++ replicate (L - count 1 x) 1))

-- 3L ternary bytes, L of each
unfoldable pub balanced : ℕ → Bytes → Bool
balanced L w = eqb (length w) (3 * L) && (eqb (count 2 w) L && (eqb (count 0 w) L && eqb (count 1 w) L))
