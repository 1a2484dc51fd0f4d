-- What is gathered at the head of scratch, and then lent to be hashed. Assumes nothing.
use mathlib.Core.Path.{◌≡◌, ap, ◌∙◌}
use mathlib.Core.List.{List}
use Prim.Native.Nat.{ℕ, ◌-◌, ◌*◌, ◌≤◌}
use native.Mathlib.Omega.{arith}
use lib.ListN.{length, take}
use Rattle.codec.specs.Bytes.{Bytes, put, words}
use Rattle.codec.proofs.Laws.{length_put, part_put}
use Rattle.codec.proofs.Numbers.{length_words}
use Rattle.vector.specs.Permutation.{entries, apply}
use Rattle.vector.proofs.Vectors.{length_apply, length_entries}

module _ (w w' s : Bytes) (m : ℕ) (sized : length s ≡ m) (fits : m ≤ length w) (e : w' ≡ put w 0 s) where
  pub head_lent : take (m - 0) w' ≡ s
  head_lent = let z : m - 0 ≡ length s = omega arith in ap (λ (k : ℕ). take k w') z ∙ ap (take (length s)) e ∙ part_put w 0 s (omega arith)

  pub head_length_lem : length w' ≡ length w
  head_length_lem = ap length e ∙ length_put w 0 s (omega arith)

-- 42n numbers, whatever is permuted
pub permuted_length : (n : ℕ) (p : Bytes) (x : List ℕ) → length p ≡ 168 * n → length (words (apply (entries p) x)) ≡ 336 * n
permuted_length n p x l = length_words (apply (entries p) x) ∙ omega (arith, length_apply (entries p) x, length_entries p)
