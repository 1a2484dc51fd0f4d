-- Range tests and counts: what their answers mean, and one number more. Assumes nothing.
use mathlib.Core.Path.{◌≡◌, refl, ap, ◌∙◌}
use mathlib.Core.Bool.{Bool, true, false, cond}
use mathlib.Core.List.{List, [], ◌∷◌, ◌++◌}
use Prim.Native.Nat.{ℕ, suc, ◌+◌, ◌≤◌, ◌<◌}
use native.Mathlib.Nat.{add-zero}
use native.Mathlib.Numerals.{add-one}
use native.Mathlib.Omega.{arith}
use lib.Dec.{eqb}
use lib.ListN.{length, take, get_or}
use lib.Seq.{take-suc}
use Rattle.std.specs.List.{count_by}
use Rattle.std.proofs.lemmas.List.Recursion.{is_sum_by}
use Rattle.codec.specs.Bytes.{Bytes}
use Rattle.modular.proofs.Centring.{remainder_lt}
use Rattle.ring.specs.Poly.{Poly, Below}
use Rattle.ring.specs.Ternary.{meaning, ternary, count}
use Rattle.codec.proofs.Lists.{length_list, get_d_list, all_below_sound, all_below_complete, not_all_below}
use Rattle.codec.specs.Lists.{list, all_below}

-- ---- the range test of a polynomial

pub below_sound : (q n : ℕ) (a : Poly) → all_below q (list n a) ≡ true → Below q n a
below_sound q n a e = record { at = λ k l. rw (← get_d_list n a k l) (all_below_sound q (list n a) e k (omega (arith, length_list n a))) }

pub below_complete : (q n : ℕ) (a : Poly) → Below q n a → all_below q (list n a) ≡ true
below_complete q n a h =
    all_below_complete q (list n a)
    (λ k l. let j : k < n = omega (arith, length_list n a) in rw (get_d_list n a k j) (h.at k j))

pub not_below : (q n : ℕ) (a : Poly) (k : ℕ) → k < n → q ≤ a k → all_below q (list n a) ≡ false
not_below q n a k l h = not_all_below q (list n a) k (omega (arith, length_list n a)) (rw (get_d_list n a k l) h)

-- what is loaded from ternary bytes or from signed numbers is below q
pub below_ternary : (q n : ℕ) (t : Bytes) → 0 < q → Below q n (ternary q t)
unfolding ternary
below_ternary q n t h = record { at = λ k l. remainder_lt q (meaning (get_or t k 0)) h }

-- ---- counts

-- the library's count
pub count_is : (v : ℕ) (xs : List ℕ) → count v xs ≡ count_by (λ (x : ℕ). eqb x v) xs
unfolding count
count_is v xs = is_sum_by (count v) (λ (x : ℕ). cond (eqb x v) 1 0) refl (λ _ _. refl) xs

pub count_append : (v : ℕ) (xs ys : List ℕ) → count v (xs ++ ys) ≡ count v xs + count v ys
unfolding count
count_append v [] ys = omega arith
count_append v (x ∷ xs) ys = omega (arith, count_append v xs ys)

pub count_more : (v : ℕ) (xs : List ℕ) (i : ℕ) → i < length xs → count v (take (i + 1) xs) ≡ count v (take i xs) + cond (eqb (get_or xs i 0) v) 1 0
unfolding count
count_more v xs i h =
    rw (add-one i, take-suc xs i 0 h) (count_append v (take i xs) (get_or xs i 0 ∷ []) ∙ ap (λ (n : ℕ). count v (take i xs) + n) (add-zero _))

pub count_le : (v : ℕ) (xs : List ℕ) → count v xs ≤ length xs
unfolding count
count_le v [] = omega arith
count_le v (x ∷ xs) = go (eqb x v) (count_le v xs)
  where
    go : (b : Bool) → count v xs ≤ length xs → cond b 1 0 + count v xs ≤ suc (length xs)
    go true h = omega arith
    go false h = omega arith
