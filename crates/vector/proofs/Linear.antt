-- The results of two linear maps side by side are a linear map. Assumes nothing.
use mathlib.Core.Path.{◌≡◌, refl, sym, ap, ap₂, ◌∙◌}
use mathlib.Core.List.{List, ◌∷◌, ◌++◌}
use Prim.Native.Nat.{ℕ, ◌+◌, ◌%◌}
use Rattle.vector.specs.Vector.{none, more, add}
use Rattle.vector.specs.Internal.{Vector, Linear}
use Rattle.vector.proofs.Vectors.{append_each}

append_add : {q n : ℕ} {x z : List ℕ} (y w : List ℕ) → Vector q n x → Vector q n z → add q (x ++ y) (z ++ w) ≡ add q x z ++ add q y w
unfolding add
append_add y w none none = refl
append_add {q} y w (more {x = a} hx vx) (more {x = b} hz vz) = ap (λ (l : List ℕ). (a + b) % q ∷ l) (append_add y w vx vz)

pub join : {q L M K : ℕ} {A B : List ℕ → List ℕ} → Linear q L M A → Linear q L K B → Linear q L (M + K) (λ x. A x ++ B x)
join {q} a b = record {
  vector = λ v. append_each (a.vector v) (b.vector v);
  sum = λ v w. ap₂ ◌++◌ (a.sum v w) (b.sum v w) ∙ sym (append_add _ _ (a.vector v) (a.vector w));
}
