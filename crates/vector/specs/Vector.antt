-- Vectors of numbers modulo q as lists, and as bytes (document 01, "One round" and "Layouts"). Assumes nothing.
use Rattle.std.specs.Prelude.{List, [], ◌∷◌, ℕ, zero, suc, ◌+◌, ◌-◌, ◌/◌, ◌%◌, length}
use Rattle.codec.specs.Bytes.{Bytes}
use Rattle.codec.specs.Lists.{list}
use Rattle.ring.specs.Slots.{poly}
use Rattle.ring.specs.Ternary.{ternary}

-- the numbers that bytes hold, 8 bytes each, the least first
unfoldable pub vector : Bytes → List ℕ
vector s = list (length s / 8) (poly s)

-- the numbers below q of ternary bytes
unfoldable pub ternaries : ℕ → Bytes → List ℕ
ternaries q w = list (length w) (ternary q w)

-- xs is n numbers, and each of them has the property P
pub data Each (P : ℕ → Type 0) : ℕ → List ℕ → Type 0 where
  none : Each P zero []
  more : {n x : ℕ} {xs : List ℕ} → P x → Each P n xs → Each P (suc n) (x ∷ xs)

unfoldable pub add : ℕ → List ℕ → List ℕ → List ℕ
add q [] ys = []
add q (x ∷ xs) [] = []
add q (x ∷ xs) (y ∷ ys) = (x + y) % q ∷ add q xs ys

unfoldable pub subtract : ℕ → List ℕ → List ℕ → List ℕ
subtract q [] ys = []
subtract q (x ∷ xs) [] = []
subtract q (x ∷ xs) (y ∷ ys) = (x + (q - y)) % q ∷ subtract q xs ys
