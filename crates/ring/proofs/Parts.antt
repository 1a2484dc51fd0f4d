-- Slots of scratch that is split in two. Assumes nothing.
use Rattle.std.proofs.Common.{◌≡◌, ◌∙◌, ℕ, ◌+◌, ◌*◌, ◌≤◌, ◌<◌, ◌++◌, length, take, drop, sym, ap, append_assoc, take-append-drop, length-take, zero-add, arith}
use Rattle.std.proofs.lemmas.List.{drop-drop, take-append-le, drop-append-le}
use Rattle.codec.specs.Bytes.{Bytes, Octets, number, part, put}
use Rattle.codec.proofs.Laws.{part_part, length_part, octets_part}
use Rattle.modular.proofs.Congruence.{same_eq}
use Rattle.ring.specs.Poly.{Poly, Alike, plus, scale, modulo}
use Rattle.ring.specs.Slots.{poly, slot, encode}
use Rattle.ring.specs.Internal.{store}
use Rattle.ring.proofs.Bridge.{encode_cong, encode_poly, length_encode, poly_part, store_alike}
use Rattle.ring.proofs.Polynomials.{alike_plus, alike_scale}

-- a write into the first of two parts
put_left : (s t u : Bytes) (at : ℕ) → at + length t ≤ length s → put s at t ++ u ≡ put (s ++ u) at t
unfolding put
put_left s t u at h =
    let l : at ≤ length s = omega arith in
    rw (take-append-le at s u l, drop-append-le (at + length t) s u h) (append_assoc (take at s) (t ++ drop (at + length t) s) u ∙ ap (λ (x : Bytes). take at s ++ x) (append_assoc t (drop (at + length t) s) u))

alike_at : {q n : ℕ} {a b : Poly} → ((k : ℕ) → k < n → a k ≡ b k) → Alike q n a b
alike_at h = record { at = λ k l. same_eq (h k l) }

module _ (w : Bytes) where
  -- ---- what stands in a slot of the second part, and of the first

  pub poly_high : (from k : ℕ) → poly (drop from w) k ≡ slot w from k
  unfolding poly slot
  poly_high from k = simp drop-drop

  pub slot_high : (at k : ℕ) → slot (drop at w) 0 k ≡ slot w at k
  unfolding slot
  slot_high at k = simp (zero-add, drop-drop)

  pub slot_low : (at mid k : ℕ) → at + 8 * k + 8 ≤ mid → slot (take mid w) at k ≡ slot w at k
  unfolding slot
  slot_low at mid k h = ap number (part_part w 0 mid (at + 8 * k) 8 (omega arith) ∙ ap (λ (i : ℕ). part w i 8) (zero-add (at + 8 * k)))

  pub poly_low : (from mid m k : ℕ) → from + 8 * k + 8 ≤ mid → 8 * k + 8 ≤ m → poly (take m (drop from (take mid w))) k ≡ slot w from k
  unfolding poly slot
  poly_low from mid m k h l = ap number (part_part (take mid w) from m (8 * k) 8 l) ∙ (unfold slot in slot_low from mid k h)

  -- ---- what is stored in a slot of one part

  stored_high : (q n at : ℕ) (a : Poly) → take at w ++ store q n (drop at w) 0 a ≡ store q n w at a
  unfolding store put
  stored_high q n at a = simp (zero-add, drop-drop)

  stored_low : (q n at mid : ℕ) (a : Poly) → at + 8 * n ≤ mid → mid ≤ length w → store q n (take mid w) at a ++ drop mid w ≡ store q n w at a
  unfolding store
  stored_low q n at mid a h l =
      put_left (take mid w) (encode n (modulo q a)) (drop mid w) at (simp (length_encode, length-take) (omega arith))
      ∙ ap (λ (x : Bytes). put x at (encode n (modulo q a))) (take-append-drop mid w)

  -- a slot of the second part, and s times one of the first
  pub sum_high : (q n s at from m : ℕ) → from + 8 * n ≤ at → 8 * n ≤ m
      → take at w ++ store q n (drop at w) 0 (plus (slot (drop at w) 0) (scale s (poly (take m (drop from (take at w)))))) ≡ store q n w at (plus (slot w at) (scale s (slot w from)))
  sum_high q n s at from m h l =
      stored_high q n at _
      ∙ store_alike w at (alike_plus (alike_at (λ k i. slot_high at k)) (alike_scale s (alike_at (λ k i. poly_low from at m k (omega arith) (omega arith)))))

  -- a slot of the first part, and s times one of the second
  pub sum_low : (q n s at from : ℕ) → at + 8 * n ≤ from → from ≤ length w
      → store q n (take from w) at (plus (slot (take from w) at) (scale s (poly (drop from w)))) ++ drop from w ≡ store q n w at (plus (slot w at) (scale s (slot w from)))
  sum_low q n s at from h l =
      stored_low q n at from _ h l
      ∙ store_alike w at (alike_plus (alike_at (λ k i. slot_low at from k (omega arith))) (alike_scale s (alike_at (λ k i. poly_high from k))))
