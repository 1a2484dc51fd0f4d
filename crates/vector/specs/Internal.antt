-- Definitions that help the proofs: no exported contract and no claim cites this file. Assumes nothing.
use Rattle.std.specs.Prelude.{◌≡◌, List, ℕ, ◌<◌}
use Rattle.vector.specs.Vector.{Each, add}

-- n numbers below q
abbrev pub Vector : ℕ → ℕ → List ℕ → Type 0
Vector q n xs = Each (λ v. v < q) n xs

-- A takes vectors of L numbers to vectors of M numbers, and sums to sums
pub record Linear (q L M : ℕ) (A : List ℕ → List ℕ) : Type 0 where
  pub vector : {x : List ℕ} → Vector q L x → Vector q M (A x)
  pub sum : {x z : List ℕ} → Vector q L x → Vector q L z → A (add q x z) ≡ add q (A x) (A z)
