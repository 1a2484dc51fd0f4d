-- The steps of `multiply`: the row and the factor laid into the room, the coefficients taken from them, the room wiped. Assumes nothing.
use mathlib.Core.Path.{◌≡◌, sym, ap, ◌∙◌}
use mathlib.Core.Logic.{◌⊎◌, inl, inr}
use mathlib.Core.List.{◌++◌}
use Prim.Native.Nat.{ℕ, ◌+◌, ◌-◌, ◌*◌, ◌%◌, ◌^◌, ◌≤◌, ◌<◌}
use native.Mathlib.Nat.{mod-lt}
use native.Mathlib.Omega.{arith}
use lib.ListN.{length, length-append, length-replicate}
use Rattle.codec.specs.Bytes.{Bytes, put, zeros}
use Rattle.codec.proofs.Laws.{length_put, put_append, put_put, le_or}
use Rattle.modular.proofs.Congruence.{same_eq, ◌then◌, same_mod, same_mul}
use Rattle.codec.proofs.Apart.{put_comm}
use Rattle.ring.specs.Poly.{Poly, sum, turn, coefficient, mul, modulo, Alike, Below}
use Rattle.ring.specs.Slots.{slot, encode}
use Rattle.ring.specs.Internal.{store, Slots}
use Rattle.ring.proofs.Sums.{sum_same}
use Rattle.ring.proofs.Coefficients.{turn_low, turn_high}
use Rattle.ring.proofs.Polynomials.{mul_at}
use Rattle.ring.proofs.Bridge.{length_encode, poly_encode, slot_later, slot_put, slot_put_before, slot_store, length_store, store_alike}

-- each coefficient takes its terms from one row
turn_row : (q n : ℕ) (a : Poly) (k i : ℕ) → k < n → i < n → turn q n a (n - 1) (n - 1 - k + i) ≡ turn q n a k i
turn_row q n a k i hk hi = go (le_or i k)
  where
    go : (i ≤ k) ⊎ (k < i) → turn q n a (n - 1) (n - 1 - k + i) ≡ turn q n a k i
    go (inl e) =
        let j : n - 1 - (n - 1 - k + i) ≡ k - i = omega arith in
        turn_low q n a (n - 1) (n - 1 - k + i) (omega arith) ∙ ap a j ∙ sym (turn_low q n a k i e)
    go (inr e) =
        let j : n + (n - 1) - (n - 1 - k + i) ≡ n + k - i = omega arith in
        turn_high q n a (n - 1) (n - 1 - k + i) (omega arith) ∙ ap (λ (x : ℕ). (q - 1) * a x) j ∙ sym (turn_high q n a k i e)

module _ (q n : ℕ) (w : Bytes) (at room : ℕ) (a : Poly) (positive : 0 < q) (bound : q < 2 ^ 56) (before : at + 8 * n ≤ room) (fits : room + 24 * n ≤ length w) (factor : Below q n (slot w at)) where
  -- the row in the room, and then the factor behind it
  abbrev pub rowed : Bytes
  rowed = store q (2 * n) w room (turn q n a (n - 1))

  abbrev pub laid : Bytes
  laid = put rowed (room + 16 * n) (encode n (slot rowed at))

  same_length : length rowed ≡ length w
  same_length = length_store q (2 * n) w room (turn q n a (n - 1)) (omega arith)

  pub copied : Slots n (room + 16 * n) at rowed
  copied = let l = same_length in record { one = omega arith; other = omega arith; apart = inl (omega arith) }

  copy_fits : room + 16 * n + length (encode n (slot rowed at)) ≤ length rowed
  copy_fits = omega (arith, same_length, length_encode n (slot rowed at))

  kept : (i : ℕ) → i < n → slot rowed at i ≡ slot w at i
  unfolding store
  kept i l = slot_put_before w room _ at i (omega (arith, length_encode (2 * n) (modulo q (turn q n a (n - 1))))) (omega arith)

  in_room : (i : ℕ) → i < n → slot laid room (2 * n + i) ≡ slot w at i
  in_room i l =
      let e : room + 16 * n ≡ room + 8 * (2 * n) = omega arith in
      sym (slot_later laid room (2 * n) i) ∙ ap (λ (j : ℕ). slot laid j i) (sym e)
      ∙ slot_put rowed (room + 16 * n) (encode n (slot rowed at)) i copy_fits (omega (arith, length_encode n (slot rowed at)))
      ∙ poly_encode n (slot rowed at) i l (rw (kept i l) (let b = factor.at i l in omega arith)) ∙ kept i l

  row_in_room : (j : ℕ) → j < 2 * n → slot laid room j ≡ turn q n a (n - 1) j % q
  row_in_room j l =
      slot_put_before rowed (room + 16 * n) (encode n (slot rowed at)) room j copy_fits (omega arith)
      ∙ slot_store q (2 * n) w room (turn q n a (n - 1)) (omega arith) positive (omega arith) j l

  pub below_laid : Below q (3 * n) (slot laid room)
  below_laid = record { at = λ k l. go k l (le_or (2 * n) k) }
    where
      go : (k : ℕ) → k < 3 * n → (2 * n ≤ k) ⊎ (k < 2 * n) → slot laid room k < q
      go k l (inl e) =
          let j : k ≡ 2 * n + (k - 2 * n) = omega arith in
          rw (j, in_room (k - 2 * n) (omega arith)) (factor.at (k - 2 * n) (omega arith))
      go k l (inr e) = rw (row_in_room k e) (mod-lt (turn q n a (n - 1) k) positive)

  -- what the code takes from the room is the product
  pub taken : Alike q n (λ k. sum n (λ i. slot laid room (2 * n + i) * slot laid room (n - 1 - k + i))) (mul q n (slot w at) a)
  unfolding coefficient
  taken = record {
    at = λ k l.
        sum_same q n (λ i m. same_mul (same_eq (in_room i m)) (same_eq (row_in_room (n - 1 - k + i) (omega arith)) then same_mod then same_eq (turn_row q n a k i l m)))
        then same_eq (sym (mul_at q n (slot w at) a k l));
  }

  -- and once the room is wiped, nothing else has changed
  pub wiped : put (store q n laid at (mul q n (slot w at) a)) room (zeros (24 * n)) ≡ put (store q n w at (mul q n (slot w at) a)) room (zeros (24 * n))
  unfolding store
  wiped =
      let x = encode (2 * n) (modulo q (turn q n a (n - 1))) in
      let y = encode n (slot rowed at) in
      let z = encode n (modulo q (mul q n (slot w at) a)) in
      let lx : length x ≡ 8 * (2 * n) = length_encode (2 * n) (modulo q (turn q n a (n - 1))) in
      let ly : length y ≡ 8 * n = length_encode n (slot rowed at) in
      let lz : length z ≡ 8 * n = length_encode n (modulo q (mul q n (slot w at) a)) in
      let e : room + 16 * n ≡ room + length x = omega arith in
      let lxy : length (x ++ y) ≡ 24 * n = simp length-append (omega arith) in
      let joined : put (put w room x) (room + 16 * n) y ≡ put w room (x ++ y) = ap (λ (j : ℕ). put (put w room x) j y) e ∙ put_append w room x y (omega arith) in
      ap (λ (d : Bytes). put (put d at z) room (zeros (24 * n))) joined
      ∙ ap (λ (d : Bytes). put d room (zeros (24 * n))) (put_comm w room (x ++ y) at z (omega arith) (omega arith))
      ∙ put_put (put w at z) room (x ++ y) (zeros (24 * n)) (omega (arith, length_put w at z (omega arith))) (length-replicate (24 * n) 0 ∙ sym lxy)

  -- the same of scratch as the steps leave it
  module _ (w₁ w₂ : Bytes) (e₁ : w₁ ≡ rowed) (e₂ : w₂ ≡ put w₁ (room + 16 * n) (encode n (slot w₁ at))) where
    laid_is : w₂ ≡ laid
    laid_is = e₂ ∙ ap (λ (d : Bytes). put d (room + 16 * n) (encode n (slot d at))) e₁

    pub below_room : Below q (3 * n) (slot w₂ room)
    below_room = rw laid_is below_laid

    pub multiplied : (w₃ : Bytes) → w₃ ≡ store q n w₂ at (λ k. sum n (λ i. slot w₂ room (2 * n + i) * slot w₂ room (n - 1 - k + i)))
        → put w₃ room (zeros (24 * n)) ≡ put (store q n w at (mul q n (slot w at) a)) room (zeros (24 * n))
    multiplied w₃ e₃ =
        ap (λ (d : Bytes). put d room (zeros (24 * n)))
        (e₃ ∙ ap (λ (d : Bytes). store q n d at (λ k. sum n (λ i. slot d room (2 * n + i) * slot d room (n - 1 - k + i)))) laid_is ∙ store_alike laid at taken)
        ∙ wiped
