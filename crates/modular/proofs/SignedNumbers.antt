-- Signed numbers by their two cases: the remainder, and the centred form of a number below q. Assumes nothing.
use Rattle.std.proofs.Common.{◌≡◌, ℕ, ◌-◌, ◌/◌, ◌%◌, ◌<◌, ◌≤◌, true, false, ℤ, pos, negsuc, nat_abs, refl, ap, ◌∙◌, mod-eq_of_lt, arith, leb-false}
use lib.Signed.{le_z}
use Rattle.modular.specs.Modulo.{centre, remainder}
use Rattle.modular.proofs.Centring.{centre_low, centre_high}

pub reduce_up : (q : ℕ) (e : ℤ) → le_z (pos 0) e ≡ true → nat_abs e % q ≡ remainder q e
unfolding remainder
reduce_up q (pos n) t = refl
reduce_up q (negsuc n) t = let z : ◌≡◌ {A = ℕ} 0 1 = cc in absurd (omega arith)

pub reduce_down : (q : ℕ) (e : ℤ) → le_z (pos 0) e ≡ false → (q - nat_abs e % q) % q ≡ remainder q e
unfolding remainder
reduce_down q (pos n) t = absurd (omega (arith, leb-false 0 n t))
reduce_down q (negsuc n) t = refl

module _ (q x : ℕ) (l : x < q) where
  pub low_is : x ≤ (q - 1) / 2 → centre q x ≡ pos x
  low_is h = centre_low q x (omega arith) (rw (mod-eq_of_lt l) h) ∙ ap pos (mod-eq_of_lt l)

  pub high_is : (q - 1) / 2 < x → centre q x ≡ negsuc (q - 1 - x)
  high_is h = centre_high q x (omega arith) (rw (mod-eq_of_lt l) h) ∙ ap (λ (n : ℕ). negsuc (q - 1 - n)) (mod-eq_of_lt l)
