-- The remainder of a sum, of a negative and of a multiple of whole numbers, and the size of a sum. Assumes nothing.
use Rattle.std.proofs.Common.{◌≡◌, ℕ, zero, suc, ◌+◌, ◌-◌, ◌*◌, ◌<◌, ◌≤◌, ℤ, pos, negsuc, ◌+ℤ◌, ◌-ℤ◌, ◌*ℤ◌, neg_ℤ, nat_abs, sym, refl, ap, ◌∙◌, ap₂, mul_comm, add_comm, mul-zero, mul-add, mul_left_comm, arith}
use lib.IntN.{pos-*ℤ-pos, pos-*ℤ-negsuc}
use Rattle.modular.specs.Modulo.{Same, remainder}
use Rattle.modular.proofs.Congruence.{same_refl, same_eq, same_sym, ◌then◌, same_mod, same_add, same_mul, same_more, same_opposite, same_cancel, with_opposite}
use Rattle.modular.proofs.Centring.{up, down, abs_parts, sum_parts, remainder_parts, remainder_mod, same_difference}

-- ---- parts

up_negative : (c : ℤ) → up (neg_ℤ c) ≡ down c
up_negative (pos zero) = refl
up_negative (pos (suc n)) = refl
up_negative (negsuc n) = refl

down_negative : (c : ℤ) → down (neg_ℤ c) ≡ up c
down_negative (pos zero) = refl
down_negative (pos (suc n)) = refl
down_negative (negsuc n) = refl

-- ---- sizes

pub abs_negative : (c : ℤ) → nat_abs (neg_ℤ c) ≡ nat_abs c
abs_negative c = omega (arith, abs_parts c, abs_parts (neg_ℤ c), up_negative c, down_negative c)

pub abs_sum : (c d : ℤ) → nat_abs (c +ℤ d) ≤ nat_abs c + nat_abs d
abs_sum c d = go (c +ℤ d) (sum_parts c d)
  where
    go : (z : ℤ) → up z + (down c + down d) ≡ up c + up d + down z → nat_abs z ≤ nat_abs c + nat_abs d
    go (pos n) e = omega (arith, abs_parts c, abs_parts d)
    go (negsuc n) e = omega (arith, abs_parts c, abs_parts d)

pub abs_multiple : (p : ℕ) (c : ℤ) → nat_abs (pos p *ℤ c) ≡ p * nat_abs c
abs_multiple p (pos n) = ap nat_abs (pos-*ℤ-pos p n)
abs_multiple p (negsuc n) = ap nat_abs (pos-*ℤ-negsuc p n) ∙ abs_negative (pos (p * suc n))

-- ---- remainders

module _ (q : ℕ) (h : 0 < q) where
  -- the remainder of c is up c - down c
  pub remainder_same : (c : ℤ) → Same q (remainder q c) (up c + (q - 1) * down c)
  remainder_same c = same_eq (remainder_parts q c h) then same_mod

  pub remainder_sum : (c d : ℤ) → Same q (remainder q (c +ℤ d)) (remainder q c + remainder q d)
  remainder_sum c d =
      remainder_same (c +ℤ d) then same_difference q (up (c +ℤ d)) (down (c +ℤ d)) (up c + up d) (down c + down d) h (sum_parts c d)
      then same_eq {y = up c + (q - 1) * down c + (up d + (q - 1) * down d)} (omega (arith, mul-add (q - 1) (down c) (down d)))
      then same_sym (same_add (remainder_same c) (remainder_same d))

  -- both sides add to 0 with the remainder of c
  pub remainder_negative : (c : ℤ) → Same q (remainder q (neg_ℤ c)) ((q - 1) * remainder q c)
  remainder_negative c =
      same_cancel (remainder q c) h
      (same_add (remainder_same (neg_ℤ c) then same_eq (ap₂ (λ (x y : ℕ). x + (q - 1) * y) (up_negative c) (down_negative c))) (remainder_same c)
      then same_eq {y = up c * q + (down c * q + 0)} (omega (arith, with_opposite q (up c) h, with_opposite q (down c) h))
      then same_more (down c * q + 0) (up c) then same_more 0 (down c)
      then same_sym (same_eq (add_comm ((q - 1) * remainder q c) (remainder q c)) then same_opposite (remainder q c) h))

  remainder_natural : (n : ℕ) → Same q (remainder q (pos n)) n
  remainder_natural n = remainder_same (pos n) then same_eq (omega (arith, mul-zero (q - 1)))

  pub remainder_multiple : (p : ℕ) (c : ℤ) → Same q (remainder q (pos p *ℤ c)) (p * remainder q c)
  remainder_multiple p (pos n) = remainder_natural (p * n) then same_sym (same_mul (same_refl {x = p}) (remainder_natural n))
  remainder_multiple p (negsuc n) =
      remainder_negative (pos (p * suc n)) then same_mul (same_refl {x = q - 1}) (remainder_natural (p * suc n))
      then same_eq (mul_left_comm (q - 1) p (suc n))
      then same_sym (same_mul (same_refl {x = p}) (remainder_negative (pos (suc n)) then same_mul (same_refl {x = q - 1}) (remainder_natural (suc n))))

  -- c - p d
  pub remainder_less : (p : ℕ) (c d : ℤ) → Same q (remainder q (c -ℤ pos p *ℤ d)) (remainder q c + (q - 1) * (p * remainder q d))
  remainder_less p c d =
      remainder_sum c (neg_ℤ (pos p *ℤ d)) then same_add same_refl (remainder_negative (pos p *ℤ d) then same_mul (same_refl {x = q - 1}) (remainder_multiple p d))

-- by p itself, c - p d is c
pub remainder_drops : (p : ℕ) (c d : ℤ) → 0 < p → remainder p (c -ℤ pos p *ℤ d) ≡ remainder p c
remainder_drops p c d h =
    sym (remainder_mod p (c -ℤ pos p *ℤ d))
    ∙ (remainder_less p h p c d then same_eq {y = (p - 1) * remainder p d * p + remainder p c} (omega (arith, mul_left_comm (p - 1) p (remainder p d), mul_comm p ((p - 1) * remainder p d)))
    then same_more (remainder p c) ((p - 1) * remainder p d)).is
    ∙ remainder_mod p c
