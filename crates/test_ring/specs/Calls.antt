-- What the calls for tests answer: 0 taken, 1 a slice of wrong length, 5 a number out of range, 37 no root; a number that is answered stands above the low byte.
-- Assumes nothing.
use Rattle.std.specs.Prelude.{Bool, cond, not, ◌&&◌, [], ◌∷◌, ◌++◌, ℕ, ◌+◌, ◌-◌, ◌*◌, ◌/◌, ◌%◌, ◌^◌, eqb, leb, ltb, nat_abs, length}
use Rattle.codec.specs.Bytes.{Bytes, zeros}
use Rattle.codec.specs.Reply.{test, first, leaves, packed, Reply}
use Rattle.codec.specs.Lists.{list, all_below}
use Rattle.modular.specs.Modulo.{centre, remainder}
use Rattle.modular.specs.Division.{multiplier}
use Rattle.modular.specs.Roots.{is_root}
use Rattle.ring.specs.Poly.{Poly, mul, plus, minus}
use Rattle.ring.specs.Slots.{coefficient_bytes, poly}
use Rattle.scratch.specs.Call.{coefficients_below}

-- a number that is answered, or its refusal
unfoldable pub answer : Reply → ℕ → ℕ
answer r v = leaves r (256 * v) (packed r)

-- 0 x + y, 1 x - y, 2 x * y, 3 -x, 4 the size of the centred x, 5 its remainder by 2
unfoldable pub on_numbers : (operation x y q : ℕ) → ℕ
on_numbers operation x y q =
    cond (eqb operation 0) ((x + y) % q)
    (cond (eqb operation 1) ((x + (q - 1) * y) % q)
    (cond (eqb operation 2) (x * y % q)
    (cond (eqb operation 3) ((q - 1) * x % q)
    (cond (eqb operation 4) (nat_abs (centre q x)) (remainder 2 (centre q x))))))

unfoldable pub numbers_reply : (operation x y q : ℕ) → Reply
numbers_reply operation x y q =
    first
    (test 5 0 (ltb 5 operation)
    ∷ test 5 0 (leb (2 ^ 56) q)
    ∷ test 5 0 (not (eqb (q % 2) 1))
    ∷ test 5 0 (leb q x)
    ∷ test 5 0 (leb q y)
    ∷ [])

-- p is out of range, or has a factor in common with q: then no multiple of q is -1 modulo p
unfoldable pub divide_reply : (x p q : ℕ) → Reply
divide_reply x p q =
    first
    (test 5 0 (ltb p 2)
    ∷ test 5 0 (ltb 251 p)
    ∷ test 5 0 (leb (2 ^ 56) q)
    ∷ test 5 0 (leb q x)
    ∷ test 5 0 (not (eqb ((1 + q * multiplier q p p) % p) 0))
    ∷ [])

-- 0 a + b, 1 a - b, and else a * b, whose method is no matter of what it is
unfoldable pub on_polynomials : (operation n q : ℕ) → Poly → Poly → Poly
on_polynomials operation n q a b = cond (eqb operation 0) (plus a b) (cond (eqb operation 1) (minus q a b) (mul q n a b))

-- two polynomials of n coefficients modulo q, and scratch of four slots
unfoldable pub polynomials_reply : (operation n q : ℕ) → Bytes → Bytes → Bytes → Reply
polynomials_reply operation n q w a b =
    first
    (test 5 0 (ltb 3 operation)
    ∷ test 5 0 (ltb 2048 n)
    ∷ test 5 0 (eqb q 0)
    ∷ test 5 0 (leb (2 ^ 56) q)
    ∷ test 1 0 (not (eqb (length w) (32 * n)))
    ∷ test 1 0 (not (eqb (length a) (8 * n)))
    ∷ test 1 0 (not (eqb (length b) (8 * n)))
    ∷ test 5 0 (not (all_below q (list (length a / 8) (poly a))))
    ∷ test 5 0 (not (all_below q (list (length b / 8) (poly b))))
    ∷ [])

-- the result in the first slot, and zeros in the others
unfoldable pub polynomials_out : (operation n q : ℕ) → Bytes → Bytes → Bytes → Bytes
polynomials_out operation n q w a b =
    leaves (polynomials_reply operation n q w a b) (coefficient_bytes q n (on_polynomials operation n q (poly a) (poly b)) ++ zeros (24 * n)) w

-- n is a power of two of 4 to 2048, and q is odd, above 1 and below 2^56
unfoldable pub suited : (n q : ℕ) → Bool
suited n q = not (ltb n 4) && not (ltb 2048 n) && eqb (2048 % n) 0 && not (ltb q 3) && not (leb (2 ^ 56) q) && eqb (q % 2) 1

-- two polynomials of n coefficients modulo an odd q, a root, and scratch of two slots
unfoldable pub transform_reply : (n root q : ℕ) → Bytes → Bytes → Bytes → Reply
transform_reply n root q w a b =
    first
    (test 5 0 (not (suited n q))
    ∷ test 1 0 (not (eqb (length w) (16 * n)))
    ∷ test 1 0 (not (eqb (length a) (8 * n)))
    ∷ test 1 0 (not (eqb (length b) (8 * n)))
    ∷ test 37 0 (not (is_root q n root))
    ∷ test 5 0 (not (coefficients_below q n (a ∷ b ∷ [])))
    ∷ [])

-- the product in the first slot, and zeros in the other
unfoldable pub transform_out : (n root q : ℕ) → Bytes → Bytes → Bytes → Bytes
transform_out n root q w a b = leaves (transform_reply n root q w a b) (coefficient_bytes q n (mul q n (poly a) (poly b)) ++ zeros (8 * n)) w

-- ternary bytes modulo q, and scratch of one slot
unfoldable pub ternary_reply : ℕ → Bytes → Bytes → Reply
ternary_reply q w t = first (test 5 0 (ltb q 2) ∷ test 5 0 (ltb 2048 (length t)) ∷ test 1 0 (not (eqb (length w) (8 * length t))) ∷ test 5 0 (not (all_below 3 t)) ∷ [])
