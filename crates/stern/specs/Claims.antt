-- What the theorems on the shortness argument of a round speak of: an honest split, and what a solution says in polynomials. Assumes nothing.
use Rattle.std.specs.Prelude.{◌≡◌, true, List, ◌++◌, ℕ, ◌*◌, ◌≤◌, ◌<◌, nat_abs, length}
use Rattle.codec.specs.Bytes.{Bytes, part}
use Rattle.codec.specs.Lists.{all_below}
use Rattle.modular.specs.Modulo.{centre}
use Rattle.ring.specs.Poly.{Poly, plus, Alike}
use Rattle.ring.specs.Slots.{slot}
use Rattle.ring.specs.Ternary.{ternary}
use Rattle.commitment.specs.Commitment.{Keys, three_of, plus3, row, second, committed, pair_bytes}
use Rattle.stern.specs.Internal.{Short}
use Rattle.stern.specs.Shortness.{polynomial, three_from, setting}

-- what the committer of a split has: x is s, e and the three r of s0, of s1, of e0, of e1 as ternary bytes, and c the pairs of s0, s1, e0, e1
pub record Split (q N : ℕ) (k : Keys) (x c : Bytes) (s0 s1 e0 e1 : Poly) : Type 0 where
  pub sized : length x ≡ 14 * N
  pub below : all_below 3 x ≡ true
  pub adds_s : Alike q N (plus s0 s1) (ternary q (part x 0 N))
  pub adds_e : Alike q N (plus e0 e1) (ternary q (part x N N))
  pub pairs : c
      ≡ pair_bytes q N (committed q N k (three_of q N (part x (2 * N) (3 * N))) s0)
      ++ (pair_bytes q N (committed q N k (three_of q N (part x (5 * N) (3 * N))) s1)
      ++ (pair_bytes q N (committed q N k (three_of q N (part x (8 * N) (3 * N))) e0)
      ++ pair_bytes q N (committed q N k (three_of q N (part x (11 * N) (3 * N))) e1)))

-- 14 polynomials with short coefficients; the pairs of s0 and s1 add up to the pair made from the first of them, those of e0 and e1 to that of the second
pub record Meets (q N : ℕ) (k : Keys) (c : Bytes) (x : List ℕ) : Type 0 where
  pub short : (j : ℕ) → j < 14 → (i : ℕ) → i < N → Short (setting q N k c) (polynomial N x j i)
  pub small : (j : ℕ) → j < 14 → (i : ℕ) → i < N → nat_abs (centre q (polynomial N x j i)) ≤ 1
  pub one_s : Alike q N (row q N k (plus3 (three_from N x 2) (three_from N x 5))) (plus (slot c 0) (slot c (16 * N)))
  pub two_s : Alike q N (second q N k (plus3 (three_from N x 2) (three_from N x 5)) (polynomial N x 0)) (plus (slot c (8 * N)) (slot c (24 * N)))
  pub one_e : Alike q N (row q N k (plus3 (three_from N x 8) (three_from N x 11))) (plus (slot c (32 * N)) (slot c (48 * N)))
  pub two_e : Alike q N (second q N k (plus3 (three_from N x 8) (three_from N x 11)) (polynomial N x 1)) (plus (slot c (40 * N)) (slot c (56 * N)))
