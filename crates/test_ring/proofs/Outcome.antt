-- A polynomial in the first of four slots that were wiped, and what a taken call has shown. Assumes nothing.
use mathlib.Core.Path.{◌≡◌, sym, ap, ap₂, ◌∙◌}
use mathlib.Core.Bool.{true}
use mathlib.Core.List.{◌++◌, append-nil}
use Prim.Native.Nat.{ℕ, ◌+◌, ◌*◌, ◌/◌, ◌^◌, ◌≤◌, ◌<◌}
use native.Mathlib.Omega.{arith}
use borrow.Author.Tests.{ltb-false, leb-false, eqb-true, eqb-false, not-false}
use lib.ListN.{length, drop, length-append, length-replicate, replicate-append-replicate}
use lib.Seq.{take_at, drop_at, drop-length}
use Rattle.codec.specs.Bytes.{Bytes, put, zeros}
use Rattle.codec.specs.Reply.{Taken}
use Rattle.codec.proofs.Laws.{put_put}
use Rattle.codec.proofs.Replies.{taken_exactly}
use Rattle.codec.specs.Lists.{list, all_below}
use Rattle.modular.proofs.Congruence.{same_eq}
use Rattle.ring.specs.Poly.{Poly, mul, modulo, Alike, Below}
use Rattle.ring.specs.Slots.{poly, slot, encode}
use Rattle.ring.specs.Internal.{store}
use Rattle.ring.proofs.Bridge.{length_encode, slot_put, encode_alike}
use Rattle.ring.proofs.Polynomials.{alike_refl, alike_mul}
use Rattle.ring.proofs.Ranges.{below_sound}
use Rattle.test_ring.specs.Calls.{polynomials_reply}

module _ (n : ℕ) where
  long : length (zeros (32 * n)) ≡ 32 * n
  long = length-replicate (32 * n) 0

  -- a slot over zeros
  over : (z : Bytes) → length z ≡ 8 * n → put (zeros (32 * n)) 0 z ≡ z ++ zeros (24 * n)
  unfolding put
  over z l =
      let e : 32 * n ≡ 8 * n + 24 * n = omega arith in
      let k : 0 + length z ≡ 8 * n = omega arith in
      ap (λ (d : Bytes). z ++ d)
      (ap₂ (λ (i j : ℕ). drop i (zeros j)) k e ∙ ap (drop (8 * n)) (sym (replicate-append-replicate (8 * n) (24 * n) 0))
      ∙ drop_at (zeros (8 * n)) (zeros (24 * n)) (8 * n) (length-replicate (8 * n) 0))

  -- the room wiped again
  room_wiped : (z : Bytes) → length z ≡ 8 * n → put (z ++ zeros (24 * n)) (8 * n) (zeros (24 * n)) ≡ z ++ zeros (24 * n)
  unfolding put
  room_wiped z l =
      let k : 8 * n + length (zeros (24 * n)) ≡ length (z ++ zeros (24 * n)) = simp length-append (omega arith) in
      ap₂ (λ (x y : Bytes). x ++ (zeros (24 * n) ++ y)) (take_at z (zeros (24 * n)) (8 * n) l) (ap (λ (j : ℕ). drop j (z ++ zeros (24 * n))) k ∙ drop-length (z ++ zeros (24 * n)))
      ∙ ap (λ (y : Bytes). z ++ y) (append-nil (zeros (24 * n)))

  module _ (q : ℕ) (w a : Bytes) (e : w ≡ put (zeros (32 * n)) 0 a) (l : length a ≡ 8 * n) where
    -- what was loaded
    loaded : (k : ℕ) → k < n → slot w 0 k ≡ poly a k
    loaded k h = ap (λ (d : Bytes). slot d 0 k) e ∙ slot_put (zeros (32 * n)) 0 a k (omega (arith, long)) (omega arith)

    pub alike_loaded : Alike q n (slot w 0) (poly a)
    alike_loaded = record { at = λ k h. same_eq (loaded k h) }

    pub below_loaded : Below q n (poly a) → Below q n (slot w 0)
    below_loaded b = record { at = λ k h. rw (loaded k h) (b.at k h) }

    -- what is stored over it
    pub outcome : (f g : Poly) → Alike q n f g → store q n w 0 f ≡ encode n (modulo q g) ++ zeros (24 * n)
    unfolding store
    outcome f g h =
        let z = encode n (modulo q f) in
        let k : length z ≡ 8 * n = length_encode n (modulo q f) in
        ap (λ (d : Bytes). put d 0 z) e ∙ put_put (zeros (32 * n)) 0 a z (omega (arith, long)) (k ∙ sym l) ∙ over z k ∙ ap (λ (x : Bytes). x ++ zeros (24 * n)) (encode_alike h)

    -- a product over it, and the room wiped
    pub product_outcome : (b : Bytes) → put (store q n w 0 (mul q n (slot w 0) (poly b))) (8 * n) (zeros (24 * n)) ≡ encode n (modulo q (mul q n (poly a) (poly b))) ++ zeros (24 * n)
    product_outcome b =
        let f = modulo q (mul q n (poly a) (poly b)) in
        ap (λ (d : Bytes). put d (8 * n) (zeros (24 * n))) (outcome _ _ (alike_mul alike_loaded alike_refl)) ∙ room_wiped (encode n f) (length_encode n f)

-- ---- a call that is taken

-- what a taken call of two polynomials has shown
pub record Fine (n q : ℕ) (w a b : Bytes) : Type 0 where
  pub size : n ≤ 2048
  pub positive : 0 < q
  pub bound : q < 2 ^ 56
  pub work : length w ≡ 32 * n
  pub left : length a ≡ 8 * n
  pub right : length b ≡ 8 * n
  pub below_left : Below q n (poly a)
  pub below_right : Below q n (poly b)

pub fine : (operation n q : ℕ) (w a b : Bytes) → polynomials_reply operation n q w a b ≡ Taken → Fine n q w a b
unfolding polynomials_reply
fine operation n q w a b e =
    let f = (taken_exactly _).0 e in
    let la : length a ≡ 8 * n = eqb-true (length a) (8 * n) (not-false _ f.1.1.1.1.1.0) in
    let lb : length b ≡ 8 * n = eqb-true (length b) (8 * n) (not-false _ f.1.1.1.1.1.1.0) in
    let na : length a / 8 ≡ n = omega arith in
    let nb : length b / 8 ≡ n = omega arith in
    let ba : all_below q (list (length a / 8) (poly a)) ≡ true = not-false _ f.1.1.1.1.1.1.1.0 in
    let bb : all_below q (list (length b / 8) (poly b)) ≡ true = not-false _ f.1.1.1.1.1.1.1.1.0 in
    record {
      size = ltb-false 2048 n f.1.0;
      positive = (let h = eqb-false q 0 f.1.1.0 in omega arith);
      bound = leb-false (2 ^ 56) q f.1.1.1.0;
      work = eqb-true (length w) (32 * n) (not-false _ f.1.1.1.1.0);
      left = la;
      right = lb;
      below_left = below_sound q n (poly a) (rw na at ba);
      below_right = below_sound q n (poly b) (rw nb at bb);
    }
