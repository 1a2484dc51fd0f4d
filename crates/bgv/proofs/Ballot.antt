-- An honest ballot decrypts: short s, e, r, e', e'' and a message below p give noise within the bound, and decryption returns the message. Assumes nothing.
use mathlib.Core.Path.{◌≡◌, ◌∙◌}
use Prim.Native.Nat.{ℕ, ◌+◌, ◌-◌, ◌*◌, ◌/◌, ◌%◌, ◌≤◌, ◌<◌}
use native.Mathlib.Nat.{mul-one, mod-eq_of_lt}
use native.Mathlib.Omega.{arith}
use Rattle.modular.specs.Modulo.{Same, centre, remainder}
use Rattle.modular.proofs.Congruence.{same_refl, ◌then◌}
use Rattle.modular.proofs.Centring.{Near, near_centre, near_size}
use Rattle.modular.proofs.Near.{near_le, near_add, near_negative, near_plain}
use Rattle.ring.specs.Poly.{Poly, plus, minus, scale, mul, Alike}
use Rattle.ring.proofs.Polynomials.{plus_comm, plus_assoc, plus_left_comm, scale_plus, scale_left_comm, mul_plus, plus_mul, mul_scale, scale_mul, mul_poly_assoc, mul_poly_left_comm, alike_eq, alike_refl, alike_sym, ◌so◌, alike_plus, alike_minus}
use Rattle.ring.proofs.Sizes.{near_product}
use Rattle.bgv.specs.Scheme.{noisy, Small, key, cipher_u, cipher_v, noise_in, plaintext, decrypted}
use Rattle.bgv.specs.Internal.{Sound}
use Rattle.bgv.proofs.Form.{noisy_alike, alike_drop}
use Rattle.bgv.proofs.Round.{positive}

module _ {q p D B : ℕ} (ok : Sound q p D B) {N : ℕ} (bound : p * (2 * N + 1) + p - 1 ≤ D) (a b s e r e' e'' m : Poly)
    (short_s : Small q N 1 s) (short_e : Small q N 1 e) (short_r : Small q N 1 r) (short_e' : Small q N 1 e') (short_e'' : Small q N 1 e'')
    (message : (k : ℕ) → k < N → m k < p) (matches : Alike q N (key q N p a s e) b) where
  ballot : Poly
  ballot = noise_in q N s (cipher_u q N p a r e') (cipher_v q N p b r e'' m)

  -- e r + e'' - s e'
  error : Poly
  error = plus (mul q N e r) (minus q e'' (mul q N s e'))

  -- v - s u = p (e r + e'' - s e') + m
  ballot_noise : Alike q N ballot (plus (scale p error) m)
  unfolding ballot error noise_in cipher_v noisy
  ballot_noise =
      alike_minus (alike_plus (noisy_alike q N p (alike_sym matches) alike_refl alike_refl) alike_refl) alike_refl so alike_eq sorted
      so alike_drop (mul q N a (mul q N s r)) (plus (scale p error) m) (positive ok)
    where
      sorted : minus q (plus (noisy q N p (key q N p a s e) r e'') m) (mul q N s (cipher_u q N p a r e'))
          ≡ plus (mul q N a (mul q N s r)) (plus (scale (q - 1) (mul q N a (mul q N s r))) (plus (scale p error) m))
      sorted = simp (mul_plus, plus_mul, scale_plus, scale_left_comm, mul_scale, scale_mul, mul_poly_assoc, mul_poly_left_comm, plus_assoc, plus_comm, plus_left_comm)

  near : (x : Poly) → Small q N 1 x → (k : ℕ) → k < N → Near q 1 (x k)
  near x h k l = near_le (h.at k l) (near_centre q (x k) (positive ok))

  error_near : (k : ℕ) → k < N → Near q (2 * N + 1) (error k)
  unfolding error plus scale
  error_near k l =
      near_le (omega (arith, mul-one N))
      (near_add (near_product e r (positive ok) (near e short_e) (near r short_r) k l)
      (near_add (near e'' short_e'' k l) (near_negative (positive ok) (near_product s e' (positive ok) (near s short_s) (near e' short_e') k l))))

  at_each : (k : ℕ) → k < N → (Near q (p * (2 * N + 1) + m k) (ballot k)) × (remainder p (centre q (ballot k)) ≡ m k % p)
  at_each k l = near_plain p (m k) ok.odd ok.positive fits (ballot_noise.at k l then pointwise) (error_near k l)
    where
      pointwise : Same q (plus (scale p error) m k) (p * error k + m k)
      pointwise = unfold plus scale in same_refl

      fits : p * (2 * N + 1) + m k ≤ (q - 1) / 2
      fits = omega (arith, message k l, bound, ok.room)

  pub honest_noise : Small q N D (noise_in q N s (cipher_u q N p a r e') (cipher_v q N p b r e'' m))
  unfolding ballot
  honest_noise = record { at = λ k l. near_size ok.odd (omega (arith, ok.room)) (near_le (omega (arith, message k l, bound)) (at_each k l).0) }

  pub honest_decrypts : (k : ℕ) → k < N → decrypted q N p s (cipher_u q N p a r e') (cipher_v q N p b r e'' m) k ≡ m k
  unfolding ballot plaintext
  honest_decrypts k l = (at_each k l).1 ∙ mod-eq_of_lt (message k l)
