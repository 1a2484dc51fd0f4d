-- Polynomials modulo X^N + 1 and q (document 01, "Ring and scheme"; document 000, section 5.1). A polynomial is its coefficients, the constant first,
-- as a function of the index. -1 is q - 1, and what a coefficient is modulo q counts. Assumes nothing.
use Rattle.std.specs.Prelude.{cond, ℕ, zero, suc, ◌+◌, ◌-◌, ◌*◌, ◌%◌, ◌<◌, leb, ltb}
use Rattle.modular.specs.Modulo.{Same}

abbrev pub Poly : Type 0
Poly = ℕ → ℕ

-- f 0 + f 1 + .. + f (n - 1)
unfoldable pub sum : ℕ → (ℕ → ℕ) → ℕ
sum zero f = 0
sum (suc n) f = sum n f + f n

-- coefficient k of X^i * b, where X^N is -1
unfoldable pub turn : (q N : ℕ) (b : Poly) (k i : ℕ) → ℕ
turn q N b k i = cond (leb i k) (b (k - i)) ((q - 1) * b (N + k - i))

-- coefficient k of a * b
unfoldable pub coefficient : (q N : ℕ) (a b : Poly) (k : ℕ) → ℕ
coefficient q N a b k = sum N (λ i. a i * turn q N b k i)

-- a * b: its N coefficients, and 0 above them
unfoldable pub mul : (q N : ℕ) → Poly → Poly → Poly
mul q N a b = λ k. cond (ltb k N) (coefficient q N a b k) 0

unfoldable pub plus : Poly → Poly → Poly
plus a b = λ k. a k + b k

-- p * a, for a number p
unfoldable pub scale : ℕ → Poly → Poly
scale p a = λ k. p * a k

abbrev pub minus : ℕ → Poly → Poly → Poly
minus q a b = plus a (scale (q - 1) b)

unfoldable pub zero_poly : Poly
zero_poly = λ k. 0

-- each coefficient modulo q
unfoldable pub modulo : ℕ → Poly → Poly
modulo q a = λ k. a k % q

-- N coefficients that are the same modulo q
pub record Alike (q N : ℕ) (a b : Poly) : Type 0 where
  pub at : (k : ℕ) → k < N → Same q (a k) (b k)

-- N coefficients below q
pub record Below (q N : ℕ) (a : Poly) : Type 0 where
  pub at : (k : ℕ) → k < N → a k < q
