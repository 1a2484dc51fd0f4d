-- What the call of a product by transforms has shown where it is taken, and what it leaves. Assumes nothing.
use mathlib.Core.Path.{◌≡◌, sym, ap, ◌∙◌}
use mathlib.Core.Bool.{true, not}
use mathlib.Core.List.{◌++◌}
use Prim.Native.Nat.{ℕ, ◌+◌, ◌*◌, ◌%◌, ◌^◌, ◌≤◌, ◌<◌}
use native.Mathlib.Omega.{arith}
use borrow.Author.Tests.{ltb-false, leb-false, eqb-true, not-true, not-false}
use lib.Dec.{eqb, leb, ltb}
use lib.ListN.{length, length-append, length-replicate}
use Rattle.codec.specs.Bytes.{Bytes, put, zeros}
use Rattle.codec.specs.Reply.{Taken}
use Rattle.codec.specs.Lists.{list, all_below}
use Rattle.codec.proofs.Laws.{both, length_put, put_put, put_append, put_whole}
use Rattle.codec.proofs.Replies.{taken_exactly}
use Rattle.modular.proofs.Congruence.{same_eq}
use Rattle.ring.specs.Poly.{mul, modulo, Below}
use Rattle.ring.specs.Slots.{poly, slot, encode}
use Rattle.ring.specs.Internal.{store}
use Rattle.ring.proofs.Bridge.{length_encode, slot_put, store_alike}
use Rattle.ring.proofs.Polynomials.{alike_mul, alike_refl}
use Rattle.ring.proofs.Ranges.{below_sound}
use Rattle.ring_transform.specs.Internal.{Transformable}
use Rattle.ring_transform.proofs.Roots.{root_sound}
use Rattle.sheet_numbers.proofs.Ranges.{divides, power_of}
use Rattle.test_ring.specs.Calls.{suited, transform_reply}

pub record Suits (n q : ℕ) : Type 0 where
  pub low : 4 ≤ n
  pub high : n ≤ 2048
  pub found : (j : ℕ) × (n ≡ 2 ^ j)
  pub modulus_low : 3 ≤ q
  pub modulus_high : q < 2 ^ 56
  pub odd : q % 2 ≡ 1

pub suited_sound : (n q : ℕ) → suited n q ≡ true → Suits n q
unfolding suited
suited_sound n q e =
    let t5 = both _ (eqb (q % 2) 1) e in
    let t4 = both _ (not (leb (2 ^ 56) q)) t5.0 in
    let t3 = both _ (not (ltb q 3)) t4.0 in
    let t2 = both _ (eqb (2048 % n) 0) t3.0 in
    let t1 = both (not (ltb n 4)) (not (ltb 2048 n)) t2.0 in
    let low = ltb-false n 4 (not-true _ t1.0) in
    let high = ltb-false 2048 n (not-true _ t1.1) in
    record {
      low = low;
      high = high;
      found = power_of 12 n (divides n low high ∙ t2.1);
      modulus_low = ltb-false q 3 (not-true _ t3.1);
      modulus_high = leb-false (2 ^ 56) q (not-true _ t4.1);
      odd = eqb-true (q % 2) 1 t5.1;
    }

pub record Shown (n root q : ℕ) (w a b : Bytes) : Type 0 where
  pub suits : Suits n q
  pub transformable : Transformable q n root
  pub work : length w ≡ 16 * n
  pub left : length a ≡ 8 * n
  pub right : length b ≡ 8 * n
  pub below_left : Below q n (poly a)
  pub below_right : Below q n (poly b)

module _ (n root q : ℕ) (w a b : Bytes) (e : transform_reply n root q w a b ≡ Taken) where
  pub shown : Shown n root q w a b
  unfolding transform_reply
  shown =
      let f = (taken_exactly _).0 e in
      let s = suited_sound n q (not-false _ f.0) in
      let la : length a ≡ 8 * n = eqb-true (length a) (8 * n) (not-false _ f.1.1.0) in
      let lb : length b ≡ 8 * n = eqb-true (length b) (8 * n) (not-false _ f.1.1.1.0) in
      let bs = both (all_below q (list n (poly a))) _ (not-false _ f.1.1.1.1.1.0) in
      let bb = both (all_below q (list n (poly b))) true bs.1 in
      record {
        suits = s;
        transformable = record {
          modulus_low = omega (arith, s.modulus_low);
          modulus_high = s.modulus_high;
          odd = s.odd;
          ring_low = omega (arith, s.low);
          ring_high = s.high;
          ring_power = s.found;
          root = root_sound q n root (omega (arith, s.modulus_low)) (not-false _ f.1.1.1.1.0);
        };
        work = eqb-true (length w) (16 * n) (not-false _ f.1.0);
        left = la;
        right = lb;
        below_left = below_sound q n (poly a) bs.0;
        below_right = below_sound q n (poly b) bb.0;
      }

-- the product in the first of two slots, and the other zero
module _ (n q : ℕ) (w w₁ a b : Bytes) (lw : length w ≡ 16 * n) (la : length a ≡ 8 * n) (e₁ : w₁ ≡ put w 0 a) where
  loaded : (k : ℕ) → k < n → slot w₁ 0 k ≡ poly a k
  loaded k h = ap (λ (d : Bytes). slot d 0 k) e₁ ∙ slot_put w 0 a k (omega arith) (omega arith)

  pub below_loaded : Below q n (poly a) → Below q n (slot w₁ 0)
  below_loaded s = record { at = λ k h. rw (loaded k h) (s.at k h) }

  pub length_loaded : length w₁ ≡ 16 * n
  length_loaded = ap length e₁ ∙ length_put w 0 a (omega arith) ∙ lw

  pub produced : put (store q n w₁ 0 (mul q n (slot w₁ 0) (poly b))) (8 * n) (zeros (8 * n)) ≡ encode n (modulo q (mul q n (poly a) (poly b))) ++ zeros (8 * n)
  unfolding store
  produced =
      let z = encode n (modulo q (mul q n (poly a) (poly b))) in
      let lz : length z ≡ 8 * n = length_encode n (modulo q (mul q n (poly a) (poly b))) in
      let lo : length (zeros (8 * n)) ≡ 8 * n = length-replicate (8 * n) 0 in
      let place : 8 * n ≡ 0 + length z = omega arith in
      ap (λ (d : Bytes). put d (8 * n) (zeros (8 * n)))
      (store_alike w₁ 0 (alike_mul (record { at = λ k h. same_eq (loaded k h) }) alike_refl) ∙ ap (λ (d : Bytes). put d 0 z) e₁ ∙ put_put w 0 a z (omega arith) (lz ∙ sym la))
      ∙ ap (λ (j : ℕ). put (put w 0 z) j (zeros (8 * n))) place ∙ put_append w 0 z (zeros (8 * n)) (omega arith)
      ∙ put_whole w (z ++ zeros (8 * n)) (length-append z (zeros (8 * n)) ∙ omega arith)
