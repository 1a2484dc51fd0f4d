-- Laws of sums. Assumes nothing.
use mathlib.Core.Path.{◌≡◌, refl, sym, ap, ap₂, ◌∙◌}
use mathlib.Core.Logic.{◌⊎◌, inl, inr, ◌≢◌}
use Prim.Native.Nat.{ℕ, zero, suc, ◌+◌, ◌*◌, ◌≤◌, ◌<◌}
use native.Mathlib.Nat.{add_assoc, mul-add, add-zero, zero-add, add-suc, mul-zero}
use native.Mathlib.Omega.{arith}
use Rattle.codec.proofs.Laws.{le_or}
use Rattle.modular.specs.Modulo.{Same}
use Rattle.modular.proofs.Congruence.{same_refl, same_add}
use Rattle.ring.specs.Poly.{sum}

pub sum_cong : (n : ℕ) {f g : ℕ → ℕ} → ((i : ℕ) → i < n → f i ≡ g i) → sum n f ≡ sum n g
unfolding sum
sum_cong zero h = refl
sum_cong (suc n) h = ap₂ (λ (x y : ℕ). x + y) (sum_cong n (λ i l. h i (omega arith))) (h n (omega arith))

pub sum_same : (q n : ℕ) {f g : ℕ → ℕ} → ((i : ℕ) → i < n → Same q (f i) (g i)) → Same q (sum n f) (sum n g)
unfolding sum
sum_same q zero h = same_refl
sum_same q (suc n) {f} {g} h = same_add (sum_same q n (λ i l. h i (omega arith))) (h n (omega arith))

pub sum_zero : (n : ℕ) → sum n (λ i. 0) ≡ 0
unfolding sum
sum_zero zero = refl
sum_zero (suc n) = rw (sum_zero n)

pub sum_add : (n : ℕ) (f g : ℕ → ℕ) → sum n (λ i. f i + g i) ≡ sum n f + sum n g
unfolding sum
sum_add zero f g = refl
sum_add (suc n) f g = rw (sum_add n f g) (omega arith)

pub sum_scale : (n c : ℕ) (f : ℕ → ℕ) → sum n (λ i. c * f i) ≡ c * sum n f
unfolding sum
sum_scale zero c f = sym (mul-zero c)
sum_scale (suc n) c f = rw (sum_scale n c f) (sym (mul-add c (sum n f) (f n)))

pub sum_split : (m n : ℕ) (f : ℕ → ℕ) → sum (m + n) f ≡ sum m f + sum n (λ i. f (m + i))
unfolding sum
sum_split m zero f = rw (add-zero m) (sym (add-zero (sum m f)))
sum_split m (suc n) f = rw (add-suc m n, sum_split m n f) (add_assoc _ _ _)

pub sum_swap : (n m : ℕ) (f : ℕ → ℕ → ℕ) → sum n (λ i. sum m (λ j. f i j)) ≡ sum m (λ j. sum n (λ i. f i j))
unfolding sum
sum_swap zero m f = sym (sum_zero m)
sum_swap (suc n) m f = ap (λ (x : ℕ). x + sum m (λ j. f n j)) (sum_swap n m f) ∙ sym (sum_add m (λ j. sum n (λ i. f i j)) (λ j. f n j))

-- a sum with one term that is not 0
pub sum_only : (n : ℕ) (f : ℕ → ℕ) (k : ℕ) → k < n → ((i : ℕ) → i < n → i ≢ k → f i ≡ 0) → sum n f ≡ f k
unfolding sum
sum_only zero f k h z = absurd (omega arith)
sum_only (suc n) f k h z = go (λ e. sum_only n f k e (λ i l d. z i (omega arith) d)) (le_or n k)
  where
    go : (k < n → sum n f ≡ f k) → (n ≤ k) ⊎ (k < n) → sum n f + f n ≡ f k
    go r (inl e) = ap₂ (λ (x y : ℕ). x + y) (sum_cong n (λ i l. z i (omega arith) (λ d. omega arith)) ∙ sum_zero n) (ap f (omega arith)) ∙ zero-add (f k)
    go r (inr e) = ap₂ (λ (x y : ℕ). x + y) (r e) (z n (omega arith) (λ d. omega arith)) ∙ add-zero (f k)
