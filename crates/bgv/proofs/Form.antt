-- Laws of a x + p y, the form of keys, ciphertexts and decryption shares, and of the two halves of a polynomial. Assumes nothing.
use mathlib.Core.Path.{◌≡◌, sym, ap, ◌∙◌}
use Prim.Native.Nat.{ℕ, ◌-◌, ◌<◌}
use Rattle.ring.specs.Poly.{Poly, plus, scale, mul, zero_poly, Alike}
use Rattle.ring.proofs.Polynomials.{plus_comm, plus_assoc, plus_left_comm, plus_zero, scale_plus, mul_plus, mul_poly_comm, alike_eq, alike_refl, alike_sym, ◌so◌, alike_plus, alike_minus, alike_scale, alike_mul, minus_self}
use Rattle.bgv.specs.Scheme.{noisy, key, noise_in, other}

module _ (q N p : ℕ) where
  -- a (x + x') + p (y + y')
  pub noisy_adds : (a x x' y y' : Poly) → noisy q N p a (plus x x') (plus y y') ≡ plus (noisy q N p a x y) (noisy q N p a x' y')
  unfolding noisy
  noisy_adds a x x' y y' = simp (mul_plus, scale_plus, plus_assoc, plus_comm, plus_left_comm)

  pub noisy_alike : {a a' x x' y y' : Poly} → Alike q N a a' → Alike q N x x' → Alike q N y y' → Alike q N (noisy q N p a x y) (noisy q N p a' x' y')
  unfolding noisy
  noisy_alike e f g = alike_plus (alike_mul e f) (alike_scale p g)

  -- how code multiplies: x by a
  pub noisy_turned : (a x y : Poly) → noisy q N p a x y ≡ plus (mul q N x a) (scale p y)
  unfolding noisy
  noisy_turned a x y = ap (λ (z : Poly). plus z (scale p y)) (mul_poly_comm q N a x)

  pub noisy_either : (a x y : Poly) → noisy q N p a x y ≡ noisy q N p x a y
  unfolding noisy
  noisy_either a x y = noisy_turned a x y

pub noise_alike : (q N : ℕ) (s : Poly) {u u' v v' : Poly} → Alike q N u u' → Alike q N v v' → Alike q N (noise_in q N s u v) (noise_in q N s u' v')
unfolding noise_in
noise_alike q N s e f = alike_minus f (alike_mul alike_refl e)

-- x + (-x + r) = r
pub alike_drop : {q N : ℕ} (x r : Poly) → 0 < q → Alike q N (plus x (plus (scale (q - 1) x) r)) r
alike_drop {q} x r h =
    alike_eq (sym (plus_assoc x (scale (q - 1) x) r)) so alike_plus (minus_self x h) alike_refl so alike_eq (plus_comm zero_poly r ∙ plus_zero r)

-- x0 + (x - x0) = x
pub halves : {q N : ℕ} (x x0 : Poly) → 0 < q → Alike q N (plus x0 (other q x x0)) x
halves {q} x x0 h = alike_eq (ap (plus x0) (plus_comm x (scale (q - 1) x0))) so alike_drop x0 x h

-- b0 + b1 = b for every split (document 000, section 6.1)
pub split_key : {q N : ℕ} (p : ℕ) (a s e s0 e0 : Poly) → 0 < q
    → Alike q N (plus (key q N p a s0 e0) (key q N p a (other q s s0) (other q e e0))) (key q N p a s e)
split_key {q} {N} p a s e s0 e0 h =
    alike_sym (alike_eq (noisy_adds q N p a s0 (other q s s0) e0 (other q e e0))) so noisy_alike q N p alike_refl (halves s s0 h) (halves e e0 h)
