-- Polynomials modulo X^N + 1 as a commutative ring, with N, q and p as parameters. Sums and products obey equations between polynomials, with no side
-- condition, so that `simp` over them sorts sums of products; only x - x = 0 needs the remainder modulo q, and is said of `Alike`. Assumes nothing.
use mathlib.Core.Path.{◌≡◌, refl, sym, ap, ap₂, ◌∙◌}
use mathlib.Core.Bool.{Bool, true, false, cond}
use Prim.Native.Nat.{ℕ, ◌+◌, ◌-◌, ◌*◌, ◌<◌}
use native.Mathlib.Nat.{add_assoc, add_comm, add_left_comm, mul_left_comm, mul-add, mul-zero, one-mul, add-zero, mod-lt}
use borrow.Author.Tests.{ltb-true, lt-ltb}
use lib.Dec.{ltb}
use Rattle.modular.proofs.Congruence.{same_refl, same_eq, same_sym, ◌then◌, same_add, same_mul, same_opposite, same_cancel, same_minus}
use Rattle.ring.specs.Poly.{Poly, coefficient, mul, plus, minus, scale, zero_poly, modulo, Alike, Below}
use Rattle.ring.specs.Internal.{one_poly}
use Rattle.ring.proofs.Coefficients.{coefficient_cong, coefficient_comm, coefficient_left_comm, coefficient_one, coefficient_add_right, coefficient_scale, coefficient_same}

-- equal at every index
pub ext : {a b : Poly} → ((k : ℕ) → a k ≡ b k) → a ≡ b
ext h = λ i k. h k i

-- ---- sums and multiples

pub plus_comm : (a b : Poly) → plus a b ≡ plus b a
unfolding plus
plus_comm a b = ext (λ k. add_comm _ _)

pub plus_assoc : (a b c : Poly) → plus (plus a b) c ≡ plus a (plus b c)
unfolding plus
plus_assoc a b c = ext (λ k. add_assoc _ _ _)

pub plus_left_comm : (a b c : Poly) → plus a (plus b c) ≡ plus b (plus a c)
unfolding plus
plus_left_comm a b c = ext (λ k. add_left_comm _ _ _)

pub plus_zero : (a : Poly) → plus a zero_poly ≡ a
unfolding plus zero_poly
plus_zero a = ext (λ k. add-zero _)

pub scale_plus : (p : ℕ) (a b : Poly) → scale p (plus a b) ≡ plus (scale p a) (scale p b)
unfolding scale plus
scale_plus p a b = ext (λ k. mul-add _ _ _)

pub scale_left_comm : (p r : ℕ) (a : Poly) → scale p (scale r a) ≡ scale r (scale p a)
unfolding scale
scale_left_comm p r a = ext (λ k. mul_left_comm _ _ _)

pub scale_one : (a : Poly) → scale 1 a ≡ a
unfolding scale
scale_one a = ext (λ k. one-mul _)

-- ---- products

-- below N the product has the coefficients that its definition says
pub mul_at : (q N : ℕ) (a b : Poly) (k : ℕ) → k < N → mul q N a b k ≡ coefficient q N a b k
unfolding mul
mul_at q N a b k h = rw (lt-ltb k N h)

-- above N both sides are 0
within : (N : ℕ) {f g : ℕ → ℕ} → ((k : ℕ) → k < N → f k ≡ g k) → (k : ℕ) → cond (ltb k N) (f k) 0 ≡ cond (ltb k N) (g k) 0
within N {f} {g} h k = go (ltb k N) refl
  where
    go : (t : Bool) → ltb k N ≡ t → cond t (f k) 0 ≡ cond t (g k) 0
    go true e = h k (ltb-true k N e)
    go false e = refl

pub mul_poly_comm : (q N : ℕ) (a b : Poly) → mul q N a b ≡ mul q N b a
unfolding mul
mul_poly_comm q N a b = ext (within N (λ k h. coefficient_comm q N a b k h))

inner : (q N : ℕ) (a b c : Poly) (k : ℕ) → k < N → coefficient q N a (mul q N b c) k ≡ coefficient q N a (coefficient q N b c) k
inner q N a b c k h = coefficient_cong q N (λ i l. refl) (λ i l. mul_at q N b c i l) k h

pub mul_poly_left_comm : (q N : ℕ) (a b c : Poly) → mul q N a (mul q N b c) ≡ mul q N b (mul q N a c)
unfolding mul
mul_poly_left_comm q N a b c = ext (within N (λ k h. inner q N a b c k h ∙ coefficient_left_comm q N a b c k ∙ sym (inner q N b a c k h)))

pub mul_poly_assoc : (q N : ℕ) (a b c : Poly) → mul q N (mul q N a b) c ≡ mul q N a (mul q N b c)
mul_poly_assoc q N a b c = mul_poly_comm q N (mul q N a b) c ∙ mul_poly_left_comm q N c a b ∙ ap (mul q N a) (mul_poly_comm q N c b)

both : (t : Bool) (x y : ℕ) → cond t (x + y) 0 ≡ cond t x 0 + cond t y 0
both true x y = refl
both false x y = refl

times : (t : Bool) (p x : ℕ) → cond t (p * x) 0 ≡ p * cond t x 0
times true p x = refl
times false p x = sym (mul-zero p)

pub mul_plus : (q N : ℕ) (a b c : Poly) → mul q N a (plus b c) ≡ plus (mul q N a b) (mul q N a c)
unfolding mul plus
mul_plus q N a b c = ext (λ k. ap (λ (x : ℕ). cond (ltb k N) x 0) (coefficient_add_right q N a b c k) ∙ both (ltb k N) _ _)

pub plus_mul : (q N : ℕ) (a b c : Poly) → mul q N (plus a b) c ≡ plus (mul q N a c) (mul q N b c)
plus_mul q N a b c = mul_poly_comm q N (plus a b) c ∙ mul_plus q N c a b ∙ ap₂ plus (mul_poly_comm q N c a) (mul_poly_comm q N c b)

pub scale_mul : (q N p : ℕ) (a b : Poly) → mul q N (scale p a) b ≡ scale p (mul q N a b)
unfolding mul scale
scale_mul q N p a b = ext (λ k. ap (λ (x : ℕ). cond (ltb k N) x 0) (coefficient_scale q N p a b k) ∙ times (ltb k N) p _)

pub mul_scale : (q N p : ℕ) (a b : Poly) → mul q N a (scale p b) ≡ scale p (mul q N a b)
mul_scale q N p a b = mul_poly_comm q N a (scale p b) ∙ scale_mul q N p b a ∙ ap (scale p) (mul_poly_comm q N b a)

pub minus_mul : (q N : ℕ) (a b c : Poly) → mul q N (minus q a b) c ≡ minus q (mul q N a c) (mul q N b c)
minus_mul q N a b c = plus_mul q N a (scale (q - 1) b) c ∙ ap (plus (mul q N a c)) (scale_mul q N (q - 1) b c)

-- ---- alike modulo q: an equivalence, and every operation goes by it

pub alike_eq : {q N : ℕ} {a b : Poly} → a ≡ b → Alike q N a b
alike_eq e = record { at = λ k l. same_eq (ap (λ (f : Poly). f k) e) }

pub alike_refl : {q N : ℕ} {a : Poly} → Alike q N a a
alike_refl = record { at = λ k l. same_refl }

pub alike_sym : {q N : ℕ} {a b : Poly} → Alike q N a b → Alike q N b a
alike_sym e = record { at = λ k l. same_sym (e.at k l) }

infixr 40 ◌so◌
pub ◌so◌ : {q N : ℕ} {a b c : Poly} → Alike q N a b → Alike q N b c → Alike q N a c
e so f = record { at = λ k l. e.at k l then f.at k l }

pub alike_plus : {q N : ℕ} {a b c d : Poly} → Alike q N a b → Alike q N c d → Alike q N (plus a c) (plus b d)
unfolding plus
alike_plus e f = record { at = λ k l. same_add (e.at k l) (f.at k l) }

pub alike_scale : {q N : ℕ} (p : ℕ) {a b : Poly} → Alike q N a b → Alike q N (scale p a) (scale p b)
unfolding scale
alike_scale p e = record { at = λ k l. same_mul (same_refl {x = p}) (e.at k l) }

pub alike_minus : {q N : ℕ} {a b c d : Poly} → Alike q N a b → Alike q N c d → Alike q N (minus q a c) (minus q b d)
alike_minus {q} e f = alike_plus e (alike_scale (q - 1) f)

pub alike_mul : {q N : ℕ} {a b c d : Poly} → Alike q N a b → Alike q N c d → Alike q N (mul q N a c) (mul q N b d)
alike_mul {q} {N} {a} {b} {c} {d} e f = record {
  at = λ k l. same_eq (mul_at q N a c k l) then coefficient_same q N e.at f.at k l then same_eq (sym (mul_at q N b d k l));
}

-- 1 is the unit
pub mul_one : {q N : ℕ} (a : Poly) → Alike q N (mul q N a one_poly) a
mul_one {q} {N} a = record { at = λ k l. same_eq (mul_at q N a one_poly k l ∙ coefficient_one q N a k l) }

-- x - x = 0
pub minus_self : {q N : ℕ} (a : Poly) → 0 < q → Alike q N (minus q a a) zero_poly
unfolding plus scale zero_poly
minus_self a h = record { at = λ k l. same_opposite (a k) h }

-- x - y = 0 only if x = y
pub minus_zero : {q N : ℕ} {a b : Poly} → 0 < q → Alike q N (minus q a b) zero_poly → Alike q N a b
unfolding plus scale zero_poly
minus_zero h e = record { at = λ k l. same_minus h (e.at k l) }

-- what is added on both sides may go
pub alike_cancel : {q N : ℕ} {a b : Poly} (c : Poly) → 0 < q → Alike q N (plus a c) (plus b c) → Alike q N a b
unfolding plus
alike_cancel c h e = record { at = λ k l. same_cancel (c k) h (e.at k l) }

-- ---- coefficients below q

pub below_modulo : {q N : ℕ} (a : Poly) → 0 < q → Below q N (modulo q a)
unfolding modulo
below_modulo a h = record { at = λ k l. mod-lt (a k) h }
