-- The steps of the work in scratch: what each leaves at 0 and at 16,384, and what the next one asks. Assumes nothing.
use mathlib.Core.Path.{◌≡◌, sym, ◌∙◌}
use mathlib.Core.Logic.{inl}
use Prim.Native.Nat.{ℕ, ◌+◌, ◌*◌, ◌^◌, ◌≤◌, ◌<◌}
use native.Mathlib.Omega.{arith}
use lib.ListN.{length}
use Rattle.codec.specs.Bytes.{Bytes, put, zeros}
use Rattle.ring.specs.Poly.{Poly, plus, scale, mul, Below}
use Rattle.ring.specs.Slots.{slot, encode}
use Rattle.ring.specs.Internal.{store, Slots}
use Rattle.ring.proofs.Polynomials.{alike_eq, alike_refl, ◌so◌, alike_plus, alike_scale}
use Rattle.scratch.specs.Call.{coefficients}
use Rattle.scratch.specs.Internal.{InSlot}
use Rattle.scratch.proofs.Slots.{Holds, holds_alike, holds_slot, stored, stored_length, stored_other, put_length, put_other, stands_alike, stands_after, stands_stored}
use Rattle.scratch.proofs.Loads.{Loaded, written_load, both_length, first_kept, length1, x1, y1, add_slots_asks}
use Rattle.bgv.specs.Scheme.{noisy}
use Rattle.bgv.proofs.Form.{noisy_turned, noisy_alike}

module _ (q n : ℕ) (high : n ≤ 2048) (some : 3 ≤ q) (few : q < 2 ^ 56) where
  positive : 0 < q
  positive = omega arith

  -- ---- a x + p y

  module _ (p : ℕ) (w : Bytes) (a : Poly) (l : length w ≡ 1048576) (w1 : Bytes) (e1 : w1 ≡ put (store q n w 0 (mul q n (slot w 0) a)) 32768 (zeros (24 * n))) (y : Below q n (slot w 16384))
      (w2 : Bytes) (e2 : w2 ≡ store q n w1 16384 (scale p (slot w1 16384))) where
    one_length : length w1 ≡ length w
    one_length = length1 q n high some few w a l w1 e1

    two_length : length w2 ≡ length w
    two_length = stored_length q n positive few w1 w2 16384 (omega (arith, one_length)) (scale p (slot w1 16384)) e2 ∙ one_length

    x2 : Holds q n 0 (mul q n (slot w 0) a) w2
    x2 = stored_other q n positive few w1 w2 16384 (omega (arith, one_length)) (scale p (slot w1 16384)) e2 (inl (omega arith)) (x1 q n high some few w a l w1 e1)

    y2 : Holds q n 16384 (scale p (slot w1 16384)) w2
    y2 = stored q n positive few w1 w2 16384 (omega (arith, one_length)) (scale p (slot w1 16384)) e2

    pub add_asks : Slots n 0 16384 w2 × Below q n (slot w2 0) × Below q n (slot w2 16384)
    add_asks = add_slots_asks q n high some few w2 (two_length ∙ l) x2 y2

    pub combined : (w3 : Bytes) → w3 ≡ store q n w2 0 (plus (slot w2 0) (slot w2 16384)) → InSlot q n (noisy q n p a (slot w 0) (slot w 16384)) w w3
    combined w3 e3 =
        stands_alike (stands_stored q n (plus (slot w2 0) (slot w2 16384)) w w2 w3 (omega (arith, two_length)) two_length e3)
        (alike_plus (holds_alike x2) (holds_alike y2 so alike_scale p (holds_alike (y1 q n high some few w a l w1 e1 y))) so alike_eq (sym (noisy_turned q n p a (slot w 0) (slot w 16384))))

  -- two polynomials are put at 0 and at 16,384, and then combined
  pub stands_noisy : (p : ℕ) (f g : Poly) (w w1 w2 : Bytes) → length w ≡ 1048576 → Loaded q n 0 f w w1 → Loaded q n 16384 g w1 w2
      → (a : Poly) (w3 : Bytes) → InSlot q n (noisy q n p a (slot w2 0) (slot w2 16384)) w2 w3 → InSlot q n (noisy q n p a f g) w w3
  stands_noisy p f g w w1 w2 l x y a w3 h =
      stands_after (both_length q n high some few f g w w1 w2 l x y)
      (stands_alike h (noisy_alike q n p alike_refl (holds_alike (first_kept q n high some few f g w w1 w2 l x y)) (holds_alike y.holds)))

  -- ---- a message is added

  module _ (w w1 : Bytes) (m : Bytes) (l : length w ≡ 1048576) (below : Below q n (coefficients m)) (x : Below q n (slot w 0)) (e1 : w1 ≡ put w 16384 (encode n (coefficients m))) where
    y : Loaded q n 16384 (coefficients m) w w1
    y = written_load q n high some few w w1 16384 l (omega arith) (coefficients m) below e1

    fits : 16384 + length y.bytes ≤ length w
    fits = omega (arith, y.sized)

    length_message : length w1 ≡ length w
    length_message = put_length q n w w1 16384 y.bytes fits y.is

    x_kept : Holds q n 0 (slot w 0) w1
    x_kept = put_other q n w w1 16384 y.bytes fits y.is (inl (omega arith)) (holds_slot w x)

    pub message_asks : Slots n 0 16384 w1 × Below q n (slot w1 0) × Below q n (slot w1 16384)
    message_asks = add_slots_asks q n high some few w1 (length_message ∙ l) x_kept y.holds

    pub stands_message : (w2 : Bytes) → w2 ≡ store q n w1 0 (plus (slot w1 0) (slot w1 16384)) → InSlot q n (plus (slot w 0) (coefficients m)) w w2
    stands_message w2 e2 =
        stands_alike (stands_stored q n (plus (slot w1 0) (slot w1 16384)) w w1 w2 (omega (arith, length_message)) length_message e2)
        (alike_plus (holds_alike x_kept) (holds_alike y.holds))
