-- Ternary bytes (document 01, "Layouts"): 0, 1, 2 mean 0, 1, -1. Assumes nothing.
use Rattle.std.specs.Prelude.{cond, List, [], ◌∷◌, ℕ, ◌+◌, eqb, ℤ, pos, negsuc, get_or}
use Rattle.codec.specs.Bytes.{Bytes}
use Rattle.modular.specs.Modulo.{remainder}
use Rattle.ring.specs.Poly.{Poly}

-- what a ternary byte means; any byte above 2 counts as 0 here, and a range test keeps it out
unfoldable pub meaning : ℕ → ℤ
meaning b = cond (eqb b 1) (pos 1) (cond (eqb b 2) (negsuc 0) (pos 0))

-- the polynomial of ternary bytes
unfoldable pub ternary : ℕ → Bytes → Poly
ternary q t i = remainder q (meaning (get_or t i 0))

-- how often v stands in a list
unfoldable pub count : ℕ → List ℕ → ℕ
count v [] = 0
count v (x ∷ xs) = cond (eqb x v) 1 0 + count v xs
