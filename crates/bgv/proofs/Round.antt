-- One round: what is rebuilt from two shares is what decryption opens, less p times both masks, so that reconstruction equals decryption; and the mask
-- that is worked out from a share is the one that was lent. Assumes nothing.
use mathlib.Core.Path.{◌≡◌, refl, sym, ap, ◌∙◌}
use Prim.Native.Nat.{ℕ, ◌+◌, ◌-◌, ◌*◌, ◌/◌, ◌%◌, ◌^◌, ◌≤◌, ◌<◌}
use native.Mathlib.Nat.{add-mul, mul-add, one-mul, mul_comm, mul_assoc, mul-le-mul, div-mul-le_self}
use native.Mathlib.Omega.{arith}
use lib.IntN.{ℤ, pos, nat_abs, neg_ℤ, ◌+ℤ◌, ◌-ℤ◌, ◌*ℤ◌}
use Rattle.modular.specs.Modulo.{Same, centre, remainder}
use Rattle.modular.specs.Division.{divide}
use Rattle.modular.specs.Internal.{Coprime}
use Rattle.modular.proofs.Congruence.{same_refl, same_eq, same_sym, ◌then◌, same_mod, same_add, same_mul}
use Rattle.modular.proofs.Centring.{centre_unique, centre_remainder, remainder_mod}
use Rattle.modular.proofs.Division.{times_divide, divide_times}
use Rattle.modular.proofs.WholeNumbers.{abs_negative, abs_sum, abs_multiple, remainder_sum, remainder_less, remainder_drops}
use Rattle.ring.specs.Poly.{Poly, plus, minus, scale, mul, Alike}
use Rattle.ring.proofs.Polynomials.{plus_comm, plus_assoc, plus_left_comm, scale_plus, scale_left_comm, plus_mul, alike_eq, alike_refl, ◌so◌, alike_plus, alike_minus, alike_mul}
use Rattle.bgv.specs.Scheme.{noisy, Wholes, residues, Bounded, Small, noise_in, plaintext, decrypted, share, recovered_mask, rebuilt, reconstructed}
use Rattle.bgv.specs.Internal.{Sound}
use Rattle.bgv.proofs.Form.{alike_drop}

-- ---- document 01's condition gives the room

pub sound : (q p D d : ℕ) → q % 2 ≡ 1 → 0 < p → Coprime p q → (1 + 2 ^ d) * D < (q - 1) / 2 → Sound q p D (2 ^ d * D / (2 * p))
sound q p D d odd h c room = record {
  odd = odd;
  positive = h;
  apart = c;
  room = omega (arith, add-mul 1 (2 ^ d) D, one-mul D, div-mul-le_self (2 ^ d * D) (2 * p), mul_comm (2 ^ d * D / (2 * p)) (2 * p));
}

module _ {q p D B : ℕ} (ok : Sound q p D B) where
  pub positive : 0 < q
  positive = let o = ok.odd in omega arith

  room_mask : B ≤ (q - 1) / 2
  room_mask =
      let h = ok.positive in
      omega (arith, ok.room, one-mul B, mul-le-mul {n₁ = 1} {m₁ = B} {n₂ = 2 * p} {m₂ = B} (omega arith) (omega arith))

  -- ---- masks

  module _ {N : ℕ} (s u t : Poly) where
    -- a share with the mask that is worked out from it is that share
    pub share_worked : Alike q N (share q N p s u (recovered_mask q N p s u t)) t
    unfolding noisy recovered_mask
    share_worked = alike_plus alike_refl masked so alike_eq (ap (plus (mul q N s u)) (plus_comm t (scale (q - 1) (mul q N s u)))) so alike_drop (mul q N s u) t positive
      where
        masked : Alike q N (scale p (residues q (λ k. centre q (divide q p (minus q t (mul q N s u) k))))) (minus q t (mul q N s u))
        masked = record {
          at = λ k l. unfold scale in let x = divide q p (minus q t (mul q N s u) k) in
              same_mul (same_refl {x = p}) (same_eq (centre_remainder q x positive) then same_mod) then times_divide ok.positive ok.apart (minus q t (mul q N s u) k);
        }

    -- the mask that is worked out from a share is the lent one
    pub worked_share : (E : Wholes) → Bounded N B E → Alike q N t (share q N p s u E) → (k : ℕ) → k < N → recovered_mask q N p s u t k ≡ E k
    unfolding recovered_mask noisy
    worked_share E bounded made k l =
        centre_unique q (divide q p (minus q t (mul q N s u) k)) (E k) ok.odd
        (sym (remainder_mod q (E k)) ∙ sym (divide_times ok.positive ok.apart (minus q t (mul q N s u) k) (remainder q (E k)) (masked.at k l)).is)
        (let h = bounded.at k l in omega (arith, room_mask))
      where
        sorted : minus q (share q N p s u E) (mul q N s u) ≡ plus (mul q N s u) (plus (scale (q - 1) (mul q N s u)) (scale p (residues q E)))
        sorted = simp (plus_assoc, plus_comm, plus_left_comm)

        masked : Alike q N (minus q t (mul q N s u)) (λ k. p * remainder q (E k))
        masked = alike_minus made alike_refl so alike_eq sorted so alike_drop (mul q N s u) (scale p (residues q E)) positive so alike_eq (unfold scale in refl)

  -- ---- reconstruction

  module _ {N : ℕ} (s0 s1 s u v t0 t1 : Poly) (E0 E1 : Wholes) (adds : Alike q N (plus s0 s1) s)
      (made0 : Alike q N t0 (share q N p s0 u E0)) (made1 : Alike q N t1 (share q N p s1 u E1)) where
    -- v - t0 - t1 = (v - s u) - p (E0 + E1)
    rebuilt_noise : Alike q N (rebuilt q v t0 t1) (minus q (noise_in q N s u v) (scale p (plus (residues q E0) (residues q E1))))
    unfolding rebuilt noise_in noisy
    rebuilt_noise =
        alike_minus (alike_minus alike_refl made0) made1 so alike_eq sorted
        so alike_minus (alike_minus alike_refl (alike_mul adds alike_refl)) alike_refl
      where
        sorted : minus q (minus q v (share q N p s0 u E0)) (share q N p s1 u E1)
            ≡ minus q (minus q v (mul q N (plus s0 s1) u)) (scale p (plus (residues q E0) (residues q E1)))
        sorted = simp (plus_mul, scale_plus, scale_left_comm, plus_assoc, plus_comm, plus_left_comm)

    module _ (noise : Small q N D (noise_in q N s u v)) (mask0 : Bounded N B E0) (mask1 : Bounded N B E1) where
      -- centred it is (v - s u centred) - p (E0 + E1)
      pub rebuilt_centred : (k : ℕ) → k < N → centre q (rebuilt q v t0 t1 k) ≡ centre q (noise_in q N s u v k) -ℤ pos p *ℤ (E0 k +ℤ E1 k)
      rebuilt_centred k l =
          centre_unique q (rebuilt q v t0 t1 k) (c -ℤ pos p *ℤ (E0 k +ℤ E1 k)) ok.odd
          (sym (remainder_mod q (c -ℤ pos p *ℤ (E0 k +ℤ E1 k)))
          ∙ (remainder_less q positive p c (E0 k +ℤ E1 k)
          then same_add (same_eq (centre_remainder q (noise_in q N s u v k) positive) then same_mod) (same_mul (same_refl {x = q - 1}) (same_mul (same_refl {x = p}) (remainder_sum q positive (E0 k) (E1 k))))
          then same_sym (rebuilt_noise.at k l then pointwise)).is)
          size
        where
          c : ℤ
          c = centre q (noise_in q N s u v k)

          pointwise : Same q (minus q (noise_in q N s u v) (scale p (plus (residues q E0) (residues q E1))) k) (noise_in q N s u v k + (q - 1) * (p * (remainder q (E0 k) + remainder q (E1 k))))
          pointwise = unfold plus scale in same_refl

          size : nat_abs (c -ℤ pos p *ℤ (E0 k +ℤ E1 k)) ≤ (q - 1) / 2
          size =
              omega (
                arith,
                ok.room,
                noise.at k l,
                abs_sum c (neg_ℤ (pos p *ℤ (E0 k +ℤ E1 k))),
                abs_negative (pos p *ℤ (E0 k +ℤ E1 k)),
                abs_multiple p (E0 k +ℤ E1 k),
                mul-le-mul {n₁ = p} {m₁ = nat_abs (E0 k +ℤ E1 k)} {n₂ = p} {m₂ = B + B} (omega arith) (omega (arith, abs_sum (E0 k) (E1 k), mask0.at k l, mask1.at k l)),
                mul-add p B B,
                mul_assoc 2 p B,
              )

      -- reconstruction equals decryption
      pub reconstructs : (k : ℕ) → k < N → reconstructed q p v t0 t1 k ≡ decrypted q N p s u v k
      unfolding plaintext
      reconstructs k l = ap (remainder p) (rebuilt_centred k l) ∙ remainder_drops p (centre q (noise_in q N s u v k)) (E0 k +ℤ E1 k) ok.positive
