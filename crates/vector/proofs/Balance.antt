-- Ternary bytes extended until there are L of each: they are balanced, a permutation keeps them so, and what stands at each place. Assumes nothing.
use mathlib.Core.Path.{◌≡◌, refl, ◌∙◌}
use mathlib.Core.Logic.{◌≢◌}
use mathlib.Core.Bool.{true, ◌&&◌}
use mathlib.Core.List.{List, ◌++◌}
use Prim.Native.Nat.{ℕ, zero, suc, ◌+◌, ◌-◌, ◌*◌, ◌≤◌, ◌<◌}
use native.Mathlib.Omega.{arith}
use borrow.Author.Tests.{eqb-true, eq-eqb}
use lib.Dec.{eqb}
use lib.ListN.{length, get_or, replicate, length-append, length-replicate, get_or-replicate, get_or-append}
use lib.Seq.{get_or-append-add}
use Rattle.codec.specs.Bytes.{Bytes}
use Rattle.codec.proofs.Laws.{both}
use Rattle.codec.specs.Lists.{all_below}
use Rattle.ring.specs.Poly.{sum}
use Rattle.ring.specs.Ternary.{count}
use Rattle.ring.proofs.Ranges.{count_append}
use Rattle.vector.specs.Permutation.{Permutes, apply, extend, balanced}
use Rattle.vector.proofs.Vectors.{each_length, length_apply, all_below_each, each_all_below}
use Rattle.vector.proofs.Counts.{hit, miss, below_counted, counted_le, counted_below, apply_count}

-- ---- the test says four equations

pub record Balanced (L : ℕ) (w : Bytes) : Type 0 where
  pub size : length w ≡ 3 * L
  pub minus : count 2 w ≡ L
  pub zeros : count 0 w ≡ L
  pub ones : count 1 w ≡ L

pub balanced_sound : (L : ℕ) (w : Bytes) → balanced L w ≡ true → Balanced L w
unfolding balanced
balanced_sound L w e =
    let one = both (eqb (length w) (3 * L)) (eqb (count 2 w) L && (eqb (count 0 w) L && eqb (count 1 w) L)) e in
    let two = both (eqb (count 2 w) L) (eqb (count 0 w) L && eqb (count 1 w) L) one.1 in
    let three = both (eqb (count 0 w) L) (eqb (count 1 w) L) two.1 in
    record {
      size = eqb-true (length w) (3 * L) one.0;
      minus = eqb-true (count 2 w) L two.0;
      zeros = eqb-true (count 0 w) L three.0;
      ones = eqb-true (count 1 w) L three.1;
    }

pub balanced_complete : {L : ℕ} {w : Bytes} → Balanced L w → balanced L w ≡ true
unfolding balanced
balanced_complete {L} {w} b =
    rw (eq-eqb (length w) (3 * L) b.size, eq-eqb (count 2 w) L b.minus, eq-eqb (count 0 w) L b.zeros, eq-eqb (count 1 w) L b.ones)

-- a permutation keeps bytes balanced
pub balanced_apply : (L : ℕ) (p w : List ℕ) → Permutes (3 * L) p → balanced L w ≡ true → balanced L (apply p w) ≡ true
balanced_apply L p w r e =
    let b = balanced_sound L w e in
    let permuted : Permutes (length w) p = rw b.size r in
    balanced_complete (record {
      size = length_apply p w ∙ each_length r.indices;
      minus = apply_count 2 p w permuted ∙ b.minus;
      zeros = apply_count 0 p w permuted ∙ b.zeros;
      ones = apply_count 1 p w permuted ∙ b.ones;
    })

-- balanced bytes are ternary
pub balanced_ternary : (L : ℕ) (w : Bytes) → balanced L w ≡ true → all_below 3 w ≡ true
unfolding sum
balanced_ternary L w e =
    let b = balanced_sound L w e in
    each_all_below (counted_below 3 w (omega arith))

-- ---- the extension place by place: x, then 2, then 0, then 1

-- three of the counts make the length at most
counts_le : (x : Bytes) → count 2 x + count 0 x + count 1 x ≤ length x
unfolding sum
counts_le x = omega (arith, counted_le 3 x)

-- behind the first of two lists
get_d_behind : (xs ys : List ℕ) (j k : ℕ) → j ≡ length xs + k → get_or (xs ++ ys) j 0 ≡ get_or ys k 0
get_d_behind xs ys j k e = rw e (get_or-append-add xs ys k 0)

long : (L : ℕ) (x : Bytes) → length (extend L x) ≡ length x + (L - count 2 x + (L - count 0 x + (L - count 1 x)))
unfolding extend
long L x = simp (length-append, length-replicate)

module _ (L : ℕ) (x : Bytes) (size : length x ≡ L) where
  pub length_extend_le : 3 * L ≤ length (extend L x)
  length_extend_le = omega (arith, long L x, counts_le x)

  pub extend_given : (j : ℕ) → j < L → get_or (extend L x) j 0 ≡ get_or x j 0
  unfolding extend
  extend_given j h = get_or-append x _ 0 j (omega arith)

  pub extend_minus : (j : ℕ) → L ≤ j → j < L + (L - count 2 x) → get_or (extend L x) j 0 ≡ 2
  unfolding extend
  extend_minus j h l =
      let r = L - count 2 x in
      get_d_behind x _ j (j - L) (omega arith)
      ∙ get_or-append (replicate r 2) _ 0 (j - L) (omega (arith, length-replicate {A = ℕ} r 2))
      ∙ get_or-replicate {A = ℕ} r (j - L) 2 0 (omega arith)

  pub extend_zero : (j : ℕ) → L + (L - count 2 x) ≤ j → j < L + (L - count 2 x) + (L - count 0 x) → get_or (extend L x) j 0 ≡ 0
  unfolding extend
  extend_zero j h l =
      let r = L - count 2 x in
      let s = L - count 0 x in
      get_d_behind x _ j (j - L) (omega arith)
      ∙ get_d_behind (replicate r 2) _ (j - L) (j - L - r) (omega (arith, length-replicate {A = ℕ} r 2))
      ∙ get_or-append (replicate s 0) _ 0 (j - L - r) (omega (arith, length-replicate {A = ℕ} s 0))
      ∙ get_or-replicate {A = ℕ} s (j - L - r) 0 0 (omega arith)

  pub extend_one : (j : ℕ) → L + (L - count 2 x) + (L - count 0 x) ≤ j → j < 3 * L → get_or (extend L x) j 0 ≡ 1
  unfolding extend
  extend_one j h l =
      let r = L - count 2 x in
      let s = L - count 0 x in
      let t = L - count 1 x in
      get_d_behind x _ j (j - L) (omega arith)
      ∙ get_d_behind (replicate r 2) _ (j - L) (j - L - r) (omega (arith, length-replicate {A = ℕ} r 2))
      ∙ get_d_behind (replicate s 0) _ (j - L - r) (j - L - r - s) (omega (arith, length-replicate {A = ℕ} s 0))
      ∙ get_or-replicate {A = ℕ} t (j - L - r - s) 1 0 (omega (arith, counts_le x))

-- ---- counts of the extension

pub ternary_counts : (x : Bytes) → all_below 3 x ≡ true → count 2 x + count 0 x + count 1 x ≡ length x
unfolding sum
ternary_counts x e = omega (arith, below_counted (all_below_each 3 x e))

count_same : (n v : ℕ) → count v (replicate n v) ≡ n
unfolding count
count_same zero v = refl
count_same (suc n) v = omega (arith, hit v, count_same n v)

count_other : (n v u : ℕ) → u ≢ v → count v (replicate n u) ≡ 0
unfolding count
count_other zero v u d = refl
count_other (suc n) v u d = omega (arith, miss d, count_other n v u d)

count_extend : (L : ℕ) (x : Bytes) (v : ℕ) → count v (extend L x)
    ≡ count v x + (count v (replicate (L - count 2 x) 2) + (count v (replicate (L - count 0 x) 0) + count v (replicate (L - count 1 x) 1)))
unfolding extend
count_extend L x v = simp count_append

-- ---- ternary bytes extended are balanced

module _ (L : ℕ) (x : Bytes) (size : length x ≡ L) (ternary : all_below 3 x ≡ true) where
  pub length_extend : length (extend L x) ≡ 3 * L
  length_extend = omega (arith, long L x, ternary_counts x ternary)

  pub extend_balanced : balanced L (extend L x) ≡ true
  extend_balanced =
      let all = ternary_counts x ternary in
      balanced_complete (record {
        size = length_extend;
        minus = omega (arith, count_extend L x 2, count_same (L - count 2 x) 2, count_other (L - count 0 x) 2 0 (omega arith), count_other (L - count 1 x) 2 1 (omega arith));
        zeros = omega (arith, count_extend L x 0, count_same (L - count 0 x) 0, count_other (L - count 2 x) 0 2 (omega arith), count_other (L - count 1 x) 0 1 (omega arith));
        ones = omega (arith, count_extend L x 1, count_same (L - count 1 x) 1, count_other (L - count 2 x) 1 2 (omega arith), count_other (L - count 0 x) 1 0 (omega arith));
      })
