-- A product that is made at the head of scratch, by either method: what it asks, and what it leaves. Assumes nothing.
use mathlib.Core.Path.{◌≡◌, refl, sym, ap, ◌∙◌}
use mathlib.Core.Bool.{Bool, true}
use mathlib.Core.List.{List, [], ◌∷◌}
use Prim.Native.Nat.{ℕ, ◌+◌, ◌*◌, ◌≤◌}
use native.Mathlib.Omega.{arith}
use lib.ListN.{length, length-replicate}
use Rattle.codec.specs.Bytes.{Bytes, part, put, same, zeros}
use Rattle.codec.specs.Reply.{Test, first, Taken}
use Rattle.codec.proofs.Laws.{part_put_before}
use Rattle.modular.specs.Roots.{is_root}
use Rattle.ring.specs.Poly.{Poly, mul, Below}
use Rattle.ring.specs.Slots.{coefficient_bytes, poly, slot}
use Rattle.ring.specs.Internal.{store}
use Rattle.ring.proofs.Polynomials.{alike_refl, alike_mul}
use Rattle.ring_transform.specs.Internal.{Transformable}
use Rattle.ring_transform.proofs.Roots.{root_sound}
use Rattle.sheet_numbers.specs.Internal.{Usable}
use Rattle.sheet_numbers.specs.declared.Numbers.{Numbers}
use Rattle.scratch.specs.Call.{scratch_length, coefficients_below}
use Rattle.scratch.specs.Internal.{Computed, Polynomial, InSlot}
use Rattle.scratch.proofs.Loads.{Loaded, lent_load, loaded_length, loaded_asks}
use Rattle.scratch.proofs.Order.{length_asked}
use Rattle.scratch.proofs.Slots.{holds_alike, put_length, stands_alike, stands_stored}
use Rattle.scratch.proofs.Zeroizing.{worked_taken}
use Rattle.scheme.specs.Calls.{product_writes}
use Rattle.scheme.specs.Internal.{WrittenAt}
use Rattle.scheme.proofs.Passed.{both_ranged}
use Rattle.scheme.proofs.Places.{handed, one_written}

-- two lent polynomials, with room for their product and scratch
pub record Factors (k : Numbers) (x y d w : Bytes) : Type 0 where
  pub one : Polynomial k.ring k.modulus x
  pub other : Polynomial k.ring k.modulus y
  pub room : length d ≡ 8 * k.ring
  pub scratch : length w ≡ 1048576

-- the tests of lengths and ranges found them so
pub factors : (k : Numbers) → Usable k → (x y d w : Bytes) {sized ranged : Bool}
    → sized ≡ same (length x ∷ length y ∷ length d ∷ length w ∷ []) (8 * k.ring ∷ 8 * k.ring ∷ 8 * k.ring ∷ scratch_length ∷ []) → sized ≡ true
    → ranged ≡ coefficients_below k.modulus k.ring (x ∷ y ∷ []) → ranged ≡ true → Factors k x y d w
factors k u x y d w e f g h =
    let r = both_ranged k u x y (length_asked _ _ 0 e f) (length_asked _ _ 1 e f) (sym g ∙ h) in
    record { one = r.0; other = r.1; room = length_asked _ _ 2 e f; scratch = length_asked _ _ 3 e f }

-- x is put at the head of scratch
module _ {n q : ℕ} {x w1 : Bytes} (p : Polynomial n q x) (w : Bytes) (l : length w ≡ 1048576) (e : w1 ≡ put w 0 x) where
  factor : Loaded q n 0 (poly x) w w1
  factor = lent_load q n p.ring_high p.modulus_low p.modulus_high w w1 0 l (omega (arith, p.ring_high)) x p.sized p.below e

  pub factor_length : length w1 ≡ 1048576
  factor_length = loaded_length q n p.ring_high p.modulus_low p.modulus_high (poly x) w w1 l factor

  pub factor_below : Below q n (slot w1 0)
  factor_below = (loaded_asks q n p.ring_high p.modulus_low p.modulus_high 0 (poly x) w w1 l (omega (arith, p.ring_high)) factor).1

  -- and multiplied by y, with a room behind it that is given back zeroed
  pub product_stands : (y : Poly) (more : ℕ) {w2 : Bytes} → more ≤ 24 * n → w2 ≡ put (store q n w1 0 (mul q n (slot w1 0) y)) (8 * n) (zeros more) → InSlot q n (mul q n (poly x) y) w w2
  product_stands y more {w2} h f = stands_alike (record { sized = sized; bytes = bytes }) (alike_mul (holds_alike factor.holds) alike_refl)
    where
      made : Bytes
      made = store q n w1 0 (mul q n (slot w1 0) y)

      stands : InSlot q n (mul q n (slot w1 0) y) w made
      stands = stands_stored q n (mul q n (slot w1 0) y) w w1 made (omega (arith, factor_length, p.ring_high)) (factor_length ∙ sym l) refl

      fits : 8 * n + length (zeros more) ≤ length made
      fits = omega (arith, stands.sized, l, p.ring_high, length-replicate {A = ℕ} more 0)

      sized : length w2 ≡ length w
      sized = put_length q n made w2 (8 * n) (zeros more) fits f ∙ stands.sized

      bytes : part w2 0 (8 * n) ≡ coefficient_bytes q n (mul q n (slot w1 0) y)
      bytes = ap (λ (v : Bytes). part v 0 (8 * n)) f ∙ part_put_before made (8 * n) (zeros more) 0 (8 * n) fits (omega arith) ∙ stands.bytes

-- it is written out, and the call is taken
pub product_written : (k : Numbers) (x y d w : Bytes) → Factors k x y d w → (more : ℕ) {tests : List Test} {d' w1 w2 w3 : Bytes} → more ≤ 24 * k.ring → w1 ≡ put w 0 x
    → w2 ≡ put (store k.modulus k.ring w1 0 (mul k.modulus k.ring (slot w1 0) (poly y))) (8 * k.ring) (zeros more) → WrittenAt 0 (part w2 0 (8 * k.ring)) d d' w2 w3
    → Taken ≡ first tests → Computed tests (product_writes k x y) Taken d d' w w3
unfolding product_writes
product_written k x y d w f more h copied made out went =
    let s = handed (product_stands f.one w f.scratch copied (poly y) more h made) out in
    worked_taken went refl (one_written k.modulus k.ring _ d _ f.room s.written) s.cleared

-- ---- what the method by transforms asks of the sheet's numbers and a root that passed its test

pub transformable : (k : Numbers) → Usable k → (root : ℕ) {tested : Bool} → tested ≡ is_root k.modulus k.ring root → tested ≡ true → Transformable k.modulus k.ring root
transformable k u root e f = record {
  modulus_low = omega (arith, u.in_range.modulus_low);
  modulus_high = u.in_range.modulus_high;
  odd = u.odd;
  ring_low = omega (arith, u.in_range.ring_low);
  ring_high = u.in_range.ring_high;
  ring_power = u.in_range.ring_power;
  root = root_sound k.modulus k.ring root (omega (arith, u.in_range.modulus_low)) (sym e ∙ f);
}
