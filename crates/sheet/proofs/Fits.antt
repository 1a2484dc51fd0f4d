-- What the condition on a sheet's lists says by their counts and their largest numbers. Assumes nothing.
use mathlib.Core.Path.{◌≡◌, refl, sym, ◌∙◌}
use mathlib.Core.Bool.{Bool, true, false, cond, ◌&&◌}
use mathlib.Core.List.{List, [], ◌∷◌, map}
use Prim.Native.Nat.{ℕ, ◌<◌}
use native.Mathlib.Omega.{arith}
use borrow.Author.Tests.{lt-ltb, ltb-true, ltb-false}
use lib.Dec.{ltb, eqb}
use lib.ListN.{length}
use Rattle.codec.specs.Lists.{every, all_below}
use Rattle.sheet_lines.specs.Internal.{bigger, largest}
use Rattle.sheet.specs.Sheet.{fits}

and_assoc : (a b c : Bool) → (a && b && c) ≡ (a && (b && c))
and_assoc true b c = refl
and_assoc false b c = refl

-- each number is below q exactly if the largest is
module _ (q : ℕ) where
  bigger_below : (a b : ℕ) → ltb (bigger a b) q ≡ (ltb a q && ltb b q)
  bigger_below a b = go (ltb a b) refl
    where
      go : (t : Bool) → ltb a b ≡ t → ltb (cond t b a) q ≡ (ltb a q && ltb b q)
      go true e = by (ltb b q) refl
        where
          by : (u : Bool) → ltb b q ≡ u → u ≡ (ltb a q && u)
          by true f = rw (lt-ltb a q (omega (arith, ltb-true a b e, ltb-true b q f)))
          by false f = sym (last (ltb a q))
            where
              last : (w : Bool) → (w && false) ≡ false
              last true = refl
              last false = refl
      go false e = by (ltb a q) refl
        where
          by : (u : Bool) → ltb a q ≡ u → u ≡ (u && ltb b q)
          by true f = sym (lt-ltb b q (omega (arith, ltb-false a b e, ltb-true a q f)))
          by false f = refl

  largest_below : (m : ℕ) (xs : List ℕ) → ltb (largest m xs) q ≡ (ltb m q && all_below q xs)
  unfolding largest all_below
  largest_below m [] = last (ltb m q)
    where
      last : (w : Bool) → w ≡ (w && true)
      last true = refl
      last false = refl
  largest_below m (x ∷ xs) =
      largest_below (bigger m x) xs ∙ rw (bigger_below m x) (and_assoc (ltb m q) (ltb x q) (all_below q xs))

  pub below_largest : 0 < q → (xs : List ℕ) → ltb (largest 0 xs) q ≡ all_below q xs
  below_largest h xs = largest_below 0 xs ∙ rw (lt-ltb 0 q h)

swap : (a b c d : Bool) → (a && c && (b && d)) ≡ (a && b && (c && d))
swap true true c d = refl
swap true false c d = go c
  where
    go : (c : Bool) → (c && false) ≡ false
    go true = refl
    go false = refl
swap false b c d = refl

-- lists fit exactly if their counts are n and their largest numbers are below q
pub fits_all : (n q : ℕ) → 0 < q → (ls : List (List ℕ))
    → (every (λ c. eqb c n) (map length ls) && all_below q (map (largest 0) ls)) ≡ every (fits n q) ls
unfolding all_below
fits_all n q h [] = refl
fits_all n q h (l ∷ ls) =
    swap (eqb (length l) n) (ltb (largest 0 l) q) (every (λ c. eqb c n) (map length ls)) (all_below q (map (largest 0) ls))
    ∙ rw (below_largest q h l, fits_all n q h ls)
