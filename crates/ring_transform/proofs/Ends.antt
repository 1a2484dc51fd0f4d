-- A product by transforms from its beginning, a lent polynomial in the room, to its end, the room wiped. Assumes nothing.
use mathlib.Core.Path.{◌≡◌, sym, ap, ap₂, ◌∙◌}
use Prim.Native.Nat.{ℕ, ◌+◌, ◌-◌, ◌*◌, ◌≤◌, ◌<◌}
use native.Mathlib.Omega.{arith}
use mathlib.Core.List.{List, ◌++◌}
use lib.ListN.{length, take, drop, length-replicate}
use Rattle.codec.specs.Bytes.{Bytes, words, put, zeros, part}
use Rattle.codec.proofs.Laws.{length_put, length_part, put_put, put_between}
use Rattle.codec.proofs.Apart.{put_comm}
use Rattle.modular.proofs.Congruence.{same_eq}
use Rattle.montgomery.specs.Internal.{Modulus}
use Rattle.ring.specs.Poly.{Poly, mul, modulo, Below}
use Rattle.ring.specs.Slots.{poly, slot, encode}
use Rattle.ring.specs.Internal.{store}
use Rattle.ring.proofs.Bridge.{length_encode, length_store, poly_part, slot_poly, slot_put, slot_put_before, store_alike}
use Rattle.ring.proofs.Polynomials.{alike_mul}
use Rattle.vector.specs.Internal.{Vector}
use Rattle.ring_transform.specs.Internal.{numbers, two_to, transform, Powers, Node, Transformable}
use Rattle.ring_transform.proofs.Convolve.{transform_vec}
use Rattle.ring_transform.proofs.Steps.{positive}
use Rattle.ring_transform.proofs.Places.{length_vec}
use Rattle.ring_transform.proofs.Whole.{list_each}

pub length_head : (a : Bytes) (n : ℕ) → 8 * n ≤ length a → length (take (8 * n) a) ≡ 8 * n
length_head a n h = length_part a 0 (8 * n) (omega arith)

module _ {q n w i l : ℕ} {p : List ℕ} (W : Bytes) (at room : ℕ) (a : Bytes) (t : Transformable q n w) (apart : at + 8 * n ≤ room) (fits : room + 8 * n ≤ length W) (long : 8 * n ≤ length a)
    (below_at : Below q n (slot W at)) (below_a : Below q n (poly a)) (m : Modulus q i) (s : Powers q w (n + 1) p) (e : (n ≡ two_to l) × (1 ≤ l) × (l ≤ 11)) {W₁ : Bytes} (e₁ : W₁ ≡ put W room (take (8 * n) a)) where
  head : Bytes
  head = take (8 * n) a

  head_length_lem : length head ≡ 8 * n
  unfolding head
  head_length_lem = length_head a n long

  one : W₁ ≡ put W room head
  unfolding head
  one = e₁

  pub loaded_length : length W₁ ≡ length W
  loaded_length = ap length one ∙ length_put W room head (omega (arith, head_length_lem))

  at_kept : (k : ℕ) → k < n → slot W₁ at k ≡ slot W at k
  at_kept k h = ap (λ (x : Bytes). slot x at k) one ∙ slot_put_before W room head at k (omega (arith, head_length_lem)) (omega arith)

  room_is : (k : ℕ) → k < n → slot W₁ room k ≡ poly a k
  unfolding head
  room_is k h =
      ap (λ (x : Bytes). slot x room k) one ∙ slot_put W room head k (omega (arith, head_length_lem)) (omega (arith, head_length_lem))
      ∙ poly_part a 0 n k h ∙ slot_poly a k

  node : (to : ℕ) → to + 8 * n ≤ length W₁ → Vector q n (numbers n W₁ to) → Node q i w n n l n p W₁ to
  node to f v = record { modulus = m; table = s; ring_high = t.ring_high; power = omega (arith, t.ring_low); deep = e.1; size = e.0; fits = f; below = v }

  pub loaded_at : Node q i w n n l n p W₁ at
  loaded_at = node at (omega (arith, loaded_length)) (list_each n (slot W₁ at) (λ k h. rw (at_kept k h) (below_at.at k h)))

  pub loaded_room : Node q i w n n l n p W₁ room
  loaded_room = node room (omega (arith, loaded_length)) (list_each n (slot W₁ room) (λ k h. rw (room_is k h) (below_a.at k h)))

  -- the room's bytes
  room_bytes : Bytes
  room_bytes = words (transform q w n l n (numbers n W₁ room))

  room_length : length room_bytes ≡ 8 * n
  unfolding room_bytes
  room_length = go n e.0 loaded_room.below
    where
      go : (k : ℕ) → k ≡ two_to l → Vector q k (numbers k W₁ room) → length (words (transform q w n l n (numbers k W₁ room))) ≡ 8 * k
      go k z v = rw z (length_vec (transform_vec w n (positive m) l n (rw z at v)))

  product : Poly
  product = mul q n (slot W at) (poly a)

  stored : store q n W₁ at (mul q n (slot W₁ at) (slot W₁ room)) ≡ put (store q n W at product) room head
  unfolding product store
  stored =
      store_alike W₁ at (alike_mul (record { at = λ k h. same_eq (at_kept k h) }) (record { at = λ k h. same_eq (room_is k h) }))
      ∙ ap (λ (x : Bytes). put x at (encode n (modulo q (mul q n (slot W at) (poly a))))) one
      ∙ put_comm W room head at (encode n (modulo q (mul q n (slot W at) (poly a)))) (omega (arith, length_encode n (modulo q (mul q n (slot W at) (poly a))))) (omega (arith, head_length_lem))

  module _ {W₂ : Bytes} (e₂ : W₂ ≡ put (store q n W₁ at (mul q n (slot W₁ at) (slot W₁ room))) room (words (transform q w n l n (numbers n W₁ room)))) where
    two : W₂ ≡ put (put (store q n W at product) room head) room room_bytes
    unfolding room_bytes
    two = e₂ ∙ ap (λ (x : Bytes). put x room (words (transform q w n l n (numbers n W₁ room)))) stored

    base_length : length (store q n W at product) ≡ length W
    base_length = length_store q n W at product (omega arith)

    over : W₂ ≡ put (store q n W at product) room room_bytes
    over = two ∙ put_put (store q n W at product) room head room_bytes (omega (arith, head_length_lem, base_length)) (room_length ∙ sym head_length_lem)

    pub multiplied_length : length W₂ ≡ length W
    multiplied_length = ap length over ∙ length_put (store q n W at product) room room_bytes (omega (arith, room_length, base_length)) ∙ base_length

    -- the room wiped
    pub wiped : (z : Bytes) → z ≡ zeros (length (part W₂ room (room + 8 * n - room)))
        → take room W₂ ++ (z ++ drop (room + 8 * n - room) (drop room W₂)) ≡ put (store q n W at (mul q n (slot W at) (poly a))) room (zeros (8 * n))
    unfolding product
    wiped z ez =
        let k : length (part W₂ room (room + 8 * n - room)) ≡ 8 * n = length_part W₂ room (room + 8 * n - room) (omega (arith, multiplied_length)) ∙ omega arith in
        let y : z ≡ zeros (8 * n) = ez ∙ ap zeros k in
        put_between W₂ z room (room + 8 * n) (omega arith) (ap length y ∙ length-replicate (8 * n) 0 ∙ omega arith) ∙ ap₂ (λ (x u : Bytes). put x room u) over y
        ∙ put_put (store q n W at product) room room_bytes (zeros (8 * n)) (omega (arith, room_length, base_length)) (length-replicate (8 * n) 0 ∙ sym room_length)
