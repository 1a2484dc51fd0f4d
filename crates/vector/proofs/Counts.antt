-- How often a number stands in a list, and permutations: the pigeonhole, the test, that a permutation keeps every count, and that it can be undone.
-- Assumes nothing.
use mathlib.Core.Path.{◌≡◌, refl, sym, ap, ap₂, ◌∙◌}
use mathlib.Core.Logic.{◌⊎◌, inl, inr, ◌≢◌}
use mathlib.Core.Bool.{Bool, true, false, cond}
use mathlib.Core.List.{List, [], ◌∷◌}
use Prim.Native.Nat.{ℕ, zero, suc, ◌+◌, ◌*◌, ◌≤◌, ◌<◌}
use native.Mathlib.Nat.{one-mul, mul-one, mul-zero, mul-add}
use native.Mathlib.Numerals.{add-one}
use native.Mathlib.Omega.{arith}
use native.Mathlib.Decide.{ℕ_discrete}
use borrow.Author.Tests.{eqb-true, eq-eqb, ne_eqb, lt-ltb, le-ltb}
use lib.Dec.{eqb, ltb}
use lib.ListN.{length, get_or, take, replicate, length-replicate, get_or-replicate}
use lib.Seq.{take-length, ext_get_or}
use Rattle.codec.specs.Bytes.{same}
use Rattle.codec.proofs.Laws.{both, same_refl, same_equal, le_or}
use Rattle.codec.specs.Lists.{list, all_below}
use Rattle.codec.proofs.Lists.{length_list, list_cong, get_d_list}
use Rattle.ring.specs.Poly.{sum}
use Rattle.ring.specs.Ternary.{count}
use Rattle.ring.proofs.Sums.{sum_cong, sum_zero, sum_add, sum_only}
use Rattle.ring.proofs.Ranges.{count_more}
use Rattle.vector.specs.Vector.{Each, none, more}
use Rattle.vector.specs.Permutation.{Permutes, permutes, apply}
use Rattle.vector.proofs.Vectors.{each_length, at_each, from_at, apply_at, each_all_below}

-- ---- one entry

pub hit : (v : ℕ) → cond {A = ℕ} (eqb v v) 1 0 ≡ 1
hit v = rw (eq-eqb v v refl)

pub miss : {v x : ℕ} → x ≢ v → cond {A = ℕ} (eqb x v) 1 0 ≡ 0
miss {v} {x} d = rw (ne_eqb x v d)

-- ---- a sum over a list's entries is a sum over numbers, each as often as it stands in the list

gather : (ℕ → ℕ) → List ℕ → ℕ
gather f [] = 0
gather f (i ∷ p) = f i + gather f p

-- f below n, and 0 from there on
abbrev below : ℕ → (ℕ → ℕ) → ℕ → ℕ
below n f i = cond (ltb i n) (f i) 0

one_term : (n : ℕ) (f : ℕ → ℕ) (k : ℕ) → sum n (λ i. f i * cond (eqb k i) 1 0) ≡ below n f k
one_term n f k = go (le_or n k)
  where
    go : (n ≤ k) ⊎ (k < n) → sum n (λ i. f i * cond (eqb k i) 1 0) ≡ below n f k
    go (inl h) = rw (le-ltb k n h) (sum_cong n (λ i l. rw (miss {v = i} {x = k} (omega arith)) (mul-zero (f i))) ∙ sum_zero n)
    go (inr h) =
        rw (lt-ltb k n h)
        (sum_only n (λ i. f i * cond (eqb k i) 1 0) k h (λ i l d. rw (miss {v = i} {x = k} (omega arith)) (mul-zero (f i)))
        ∙ rw (hit k) (mul-one (f k)))

by_number : (n : ℕ) (f : ℕ → ℕ) (p : List ℕ) → gather (below n f) p ≡ sum n (λ i. f i * count i p)
unfolding gather count
by_number n f [] = sym (sum_cong n (λ i l. mul-zero (f i)) ∙ sum_zero n)
by_number n f (k ∷ p) =
    ap₂ (λ (a b : ℕ). a + b) (sym (one_term n f k)) (by_number n f p)
    ∙ sym (sum_cong n (λ i l. mul-add (f i) (cond (eqb k i) 1 0) (count i p)) ∙ sum_add n (λ i. f i * cond (eqb k i) 1 0) (λ i. f i * count i p))

gather_below : (f : ℕ → ℕ) {n m : ℕ} {p : List ℕ} → Each (λ i. i < n) m p → gather (below n f) p ≡ gather f p
unfolding gather
gather_below f none = refl
gather_below f {n} (more {x = k} h v) = rw (lt-ltb k n h, gather_below f v)

-- ---- the counts of the numbers below n make the length exactly if each entry is below n

by_count : (n : ℕ) (p : List ℕ) → gather (below n (λ i. 1)) p ≡ sum n (λ i. count i p)
by_count n p = by_number n (λ i. 1) p ∙ sum_cong n (λ i l. one-mul (count i p))

gather_one : {P : ℕ → Type 0} {n : ℕ} {p : List ℕ} → Each P n p → gather (λ i. 1) p ≡ n
unfolding gather
gather_one none = refl
gather_one (more h v) = omega (arith, gather_one v)

pub below_counted : {n m : ℕ} {p : List ℕ} → Each (λ i. i < n) m p → sum n (λ i. count i p) ≡ m
below_counted {n} {p} v = sym (by_count n p) ∙ gather_below (λ i. 1) v ∙ gather_one v

gather_le : (n : ℕ) (p : List ℕ) → gather (below n (λ i. 1)) p ≤ length p
unfolding gather
gather_le n [] = omega arith
gather_le n (k ∷ p) = go (ltb k n) (gather_le n p)
  where
    go : (b : Bool) → gather (below n (λ i. 1)) p ≤ length p → cond b 1 0 + gather (below n (λ i. 1)) p ≤ suc (length p)
    go true h = omega arith
    go false h = omega arith

all_below_lem : (n : ℕ) (p : List ℕ) → gather (below n (λ i. 1)) p ≡ length p → Each (λ i. i < n) (length p) p
unfolding gather
all_below_lem n [] e = none
all_below_lem n (k ∷ p) e = go (le_or n k) (λ h. all_below_lem n p h)
  where
    go : (n ≤ k) ⊎ (k < n) → (gather (below n (λ i. 1)) p ≡ length p → Each (λ i. i < n) (length p) p) → Each (λ i. i < n) (suc (length p)) (k ∷ p)
    go (inl h) r = absurd (omega (arith, gather_le n p, rw (le-ltb k n h) at e))
    go (inr h) r = more h (r (omega (arith, rw (lt-ltb k n h) at e)))

-- and never more than that
pub counted_le : (n : ℕ) (p : List ℕ) → sum n (λ i. count i p) ≤ length p
counted_le n p = omega (arith, by_count n p, gather_le n p)

pub counted_below : (n : ℕ) (p : List ℕ) → sum n (λ i. count i p) ≡ length p → Each (λ i. i < n) (length p) p
counted_below n p e = all_below_lem n p (by_count n p ∙ e)

-- ---- the pigeonhole: n numbers below n, none of them twice, are all of them

sum_le : (n : ℕ) (f : ℕ → ℕ) → ((i : ℕ) → i < n → f i ≤ 1) → sum n f ≤ n
unfolding sum
sum_le zero f h = omega arith
sum_le (suc n) f h = omega (arith, h n (omega arith), sum_le n f (λ i l. h i (omega arith)))

full : (n : ℕ) (f : ℕ → ℕ) → ((i : ℕ) → i < n → f i ≤ 1) → sum n f ≡ n → (i : ℕ) → i < n → f i ≡ 1
unfolding sum
full zero f h e i l = absurd (omega arith)
full (suc n) f h e i l =
    let last : f n ≡ 1 = omega (arith, h n (omega arith), sum_le n f (λ k m. h k (omega arith))) in
    go last (λ m. full n f (λ k b. h k (omega arith)) (omega arith) i m) (le_or n i)
  where
    go : f n ≡ 1 → (i < n → f i ≡ 1) → (n ≤ i) ⊎ (i < n) → f i ≡ 1
    go last r (inl m) = let k : i ≡ n = omega arith in rw k last
    go last r (inr m) = r m

pub pigeonhole : {n : ℕ} {p : List ℕ} → Each (λ i. i < n) n p → ((i : ℕ) → i < n → count i p ≤ 1) → Permutes n p
pigeonhole {n} {p} v h = record { indices = v; once = full n (λ i. count i p) h (below_counted v) }

-- ---- the test

sum_ones : (n : ℕ) → sum n (λ i. 1) ≡ n
unfolding sum
sum_ones zero = refl
sum_ones (suc n) = omega (arith, sum_ones n)

list_same : (n a : ℕ) → list n (λ i. a) ≡ replicate n a
list_same n a =
    ext_get_or 0 (list n (λ i. a)) (replicate n a) (length_list n (λ i. a) ∙ sym (length-replicate {A = ℕ} n a))
    (λ k l. let h : k < n = omega (arith, length_list n (λ i. a)) in get_d_list n (λ i. a) k h ∙ sym (get_or-replicate {A = ℕ} n k a 0 h))

pub permutes_sound : (n : ℕ) (p : List ℕ) → permutes n p ≡ true → Permutes n p
unfolding permutes
permutes_sound n p e = record { indices = rw size at (counted_below n p counted); once = once }
  where
    tests : (eqb (length p) n ≡ true) × (same (list n (λ i. count i p)) (replicate n 1) ≡ true)
    tests = both (eqb (length p) n) (same (list n (λ i. count i p)) (replicate n 1)) e

    size : length p ≡ n
    size = eqb-true (length p) n tests.0

    once : (i : ℕ) → i < n → count i p ≡ 1
    once i l =
        sym (get_d_list n (λ j. count j p) i l) ∙ ap (λ (x : List ℕ). get_or x i 0) (same_equal (list n (λ j. count j p)) (replicate n 1) tests.1)
        ∙ get_or-replicate {A = ℕ} n i 1 0 l

    counted : sum n (λ i. count i p) ≡ length p
    counted = sum_cong n once ∙ sum_ones n ∙ sym size

pub permutes_complete : {n : ℕ} {p : List ℕ} → Permutes n p → permutes n p ≡ true
unfolding permutes
permutes_complete {n} {p} r =
    rw (eq-eqb (length p) n (each_length r.indices), list_cong n r.once ∙ list_same n 1) (same_refl (replicate n 1))

-- each entry of a permutation is below n, as the functions that apply one require
pub permutes_below : (n : ℕ) (p : List ℕ) → permutes n p ≡ true → all_below n p ≡ true
permutes_below n p e = each_all_below (permutes_sound n p e).indices

-- ---- a permutation keeps every count

count_gather : (v : ℕ) (p x : List ℕ) → count v (apply p x) ≡ gather (λ i. cond (eqb (get_or x i 0) v) 1 0) p
unfolding count apply gather
count_gather v [] x = refl
count_gather v (i ∷ p) x = ap (λ (n : ℕ). cond (eqb (get_or x i 0) v) 1 0 + n) (count_gather v p x)

count_sum : (v : ℕ) (x : List ℕ) (k : ℕ) → k ≤ length x → sum k (λ i. cond (eqb (get_or x i 0) v) 1 0) ≡ count v (take k x)
unfolding sum
count_sum v x zero h = unfold count in refl
count_sum v x (suc k) h =
    ap (λ (n : ℕ). n + cond (eqb (get_or x k 0) v) 1 0) (count_sum v x k (omega arith))
    ∙ sym (count_more v x k (omega arith)) ∙ ap (λ (n : ℕ). count v (take n x)) (add-one k)

pub apply_count : (v : ℕ) (p x : List ℕ) → Permutes (length x) p → count v (apply p x) ≡ count v x
apply_count v p x r =
    count_gather v p x ∙ sym (gather_below f r.indices) ∙ by_number (length x) f p
    ∙ sum_cong (length x) (λ i l. ap (λ (n : ℕ). f i * n) (r.once i l) ∙ mul-one (f i))
    ∙ count_sum v x (length x) (omega arith) ∙ ap (count v) (take-length x)
  where
    f : ℕ → ℕ
    f i = cond (eqb (get_or x i 0) v) 1 0

-- ---- a permutation undone: what each entry of the permuted list has, each entry of the list has

-- where a number stands
pub position : (v : ℕ) (p : List ℕ) → 0 < count v p → (k : ℕ) × (k < length p) × (get_or p k 0 ≡ v)
unfolding count
position v [] h = absurd (omega arith)
position v (x ∷ p) h = go (ℕ_discrete x v) (λ l. position v p l)
  where
    go : Dec (x ≡ v) → (0 < count v p → (k : ℕ) × (k < length p) × (get_or p k 0 ≡ v)) → (k : ℕ) × (k < length (x ∷ p)) × (get_or (x ∷ p) k 0 ≡ v)
    go (yes e) rest = (0, omega arith, e)
    go (no d) rest = let r = rest (omega (arith, miss d)) in (suc r.0, omega arith, r.2)

pub unapply : {P : ℕ → Type 0} {p x : List ℕ} {n : ℕ} → Permutes n p → length x ≡ n → Each P n (apply p x) → Each P n x
unapply {P} {p} {x} {n} r e v = rw e at (from_at {P = P} x reach)
  where
    reach : (j : ℕ) → j < length x → P (get_or x j 0)
    reach j h =
        let l : j < n = omega arith in
        let k = position j p (omega (arith, r.once j l)) in
        let m = each_length r.indices in
        let t : P (get_or (apply p x) k.0 0) = at_each v k.0 (omega arith) in
        rw (apply_at p x k.0 k.1, k.2) at t
