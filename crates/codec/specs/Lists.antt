-- Lists of values and tests of every element, for all crates. Assumes nothing.
use Rattle.std.specs.Prelude.{Bool, true, ◌&&◌, List, [], ◌∷◌, ◌++◌, ℕ, zero, suc, ltb}

-- f 0, f 1, .., f (n - 1)
unfoldable pub list : {A : Type 0} → ℕ → (ℕ → A) → List A
list zero f = []
list (suc n) f = list n f ++ (f n ∷ [])

-- whether each element passes a test
abbrev pub every : {A : Type 0} → (A → Bool) → List A → Bool
every f [] = true
every f (x ∷ xs) = f x && every f xs

-- whether each number of a list is below v: the range test of coefficients (v = q) and of ternary bytes (v = 3)
unfoldable pub all_below : ℕ → List ℕ → Bool
all_below v xs = every (λ x. ltb x v) xs

-- whether each of 0 .. n - 1 passes a test
unfoldable pub all : ℕ → (ℕ → Bool) → Bool
all zero f = true
all (suc n) f = all n f && f n
