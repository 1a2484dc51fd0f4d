-- Laws of lists of values and of tests of every element. Assumes nothing.
use mathlib.Core.Path.{◌≡◌, refl, ap, ap₂, ◌∙◌}
use mathlib.Core.Logic.{◌⊎◌, inl, inr}
use mathlib.Core.Bool.{Bool, true, false, ◌&&◌}
use mathlib.Core.List.{List, [], ◌∷◌, ◌++◌}
use Prim.Native.Nat.{ℕ, zero, suc, ◌≤◌, ◌<◌}
use native.Mathlib.Omega.{arith}
use borrow.Author.Tests.{ltb-true, lt-ltb}
use lib.Dec.{ltb}
use lib.ListN.{length, get_or, length-append, get_or-append}
use lib.Seq.{get_or_at, ext_get_or}
use Rattle.codec.specs.Lists.{list, all_below, all}
use Rattle.codec.proofs.Laws.{le_or, both}

-- ---- values as a list

pub length_list : {A : Type 0} (n : ℕ) (f : ℕ → A) → length (list n f) ≡ n
unfolding list
length_list zero f = refl
length_list (suc n) f = simp length-append (omega (arith, length_list n f))

pub list_cong : {A : Type 0} (n : ℕ) {f g : ℕ → A} → ((k : ℕ) → k < n → f k ≡ g k) → list n f ≡ list n g
unfolding list
list_cong zero h = refl
list_cong {A} (suc n) h = ap₂ (λ (l : List A) (x : A). l ++ (x ∷ [])) (list_cong n (λ k l. h k (omega arith))) (h n (omega arith))

-- made a list, then read
pub get_d_list : (n : ℕ) (f : ℕ → ℕ) (k : ℕ) → k < n → get_or (list n f) k 0 ≡ f k
unfolding list
get_d_list zero f k h = absurd (omega arith)
get_d_list (suc n) f k h = go (λ l. get_d_list n f k l) (le_or n k)
  where
    go : (k < n → get_or (list n f) k 0 ≡ f k) → (n ≤ k) ⊎ (k < n) → get_or (list n f ++ (f n ∷ [])) k 0 ≡ f k
    go r (inl e) = get_or_at (list n f) (f n) [] 0 k (omega (arith, length_list n f)) ∙ ap f (omega arith)
    go r (inr l) = get_or-append (list n f) (f n ∷ []) 0 k (omega (arith, length_list n f)) ∙ r l

-- read, then made a list
pub list_get_d : (xs : List ℕ) → list (length xs) (λ k. get_or xs k 0) ≡ xs
list_get_d xs =
    ext_get_or 0 (list (length xs) (λ k. get_or xs k 0)) xs (length_list (length xs) _)
    (λ k h. get_d_list (length xs) (λ k. get_or xs k 0) k (omega (arith, length_list (length xs) (λ k. get_or xs k 0))))

-- ---- a range test is sound and complete

pub all_below_sound : (v : ℕ) (xs : List ℕ) → all_below v xs ≡ true → (i : ℕ) → i < length xs → get_or xs i 0 < v
unfolding all_below
all_below_sound v [] e i h = absurd (omega arith)
all_below_sound v (x ∷ xs) e zero h = ltb-true x v (both (ltb x v) (all_below v xs) e).0
all_below_sound v (x ∷ xs) e (suc i) h = all_below_sound v xs (both (ltb x v) (all_below v xs) e).1 i (omega arith)

pub all_below_complete : (v : ℕ) (xs : List ℕ) → ((i : ℕ) → i < length xs → get_or xs i 0 < v) → all_below v xs ≡ true
unfolding all_below
all_below_complete v [] h = refl
all_below_complete v (x ∷ xs) h = rw (lt-ltb x v (h 0 (omega arith))) (all_below_complete v xs (λ i l. h (suc i) (omega arith)))

pub not_all_below : (v : ℕ) (xs : List ℕ) (i : ℕ) → i < length xs → v ≤ get_or xs i 0 → all_below v xs ≡ false
not_all_below v xs i h l = go (all_below v xs) refl
  where
    go : (b : Bool) → all_below v xs ≡ b → b ≡ false
    go true e = absurd (omega (arith, all_below_sound v xs e i h))
    go false e = refl

-- past its end a list reads 0
pub all_below_at : (v : ℕ) → 0 < v → (xs : List ℕ) → all_below v xs ≡ true → (i : ℕ) → get_or xs i 0 < v
unfolding all_below
all_below_at v h [] e i = h
all_below_at v h (x ∷ xs) e zero = ltb-true x v (both (ltb x v) (all_below v xs) e).0
all_below_at v h (x ∷ xs) e (suc i) = all_below_at v h xs (both (ltb x v) (all_below v xs) e).1 i

-- ---- a test of every number below n

pub all_sound : (n : ℕ) (f : ℕ → Bool) → all n f ≡ true → (j : ℕ) → j < n → f j ≡ true
unfolding all
all_sound zero f e j h = absurd (omega arith)
all_sound (suc n) f e j h = go (λ l. all_sound n f (both (all n f) (f n) e).0 j l) (le_or n j)
  where
    go : (j < n → f j ≡ true) → (n ≤ j) ⊎ (j < n) → f j ≡ true
    go before (inl l) = let p : j ≡ n = omega arith in rw p (both (all n f) (f n) e).1
    go before (inr l) = before l

pub all_complete : (n : ℕ) (f : ℕ → Bool) → ((j : ℕ) → j < n → f j ≡ true) → all n f ≡ true
unfolding all
all_complete zero f h = refl
all_complete (suc n) f h = ap₂ ◌&&◌ (all_complete n f (λ j l. h j (omega arith))) (h n (omega arith))
