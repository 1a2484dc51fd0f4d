-- What stands in the slots of scratch, step by step. Assumes nothing.
use mathlib.Core.Path.{◌≡◌, refl, sym, ap, ◌∙◌}
use mathlib.Core.Logic.{◌⊎◌, inl, inr}
use Prim.Native.Nat.{ℕ, ◌+◌, ◌*◌, ◌%◌, ◌^◌, ◌≤◌, ◌<◌}
use native.Mathlib.Nat.{mod-lt, mod-mod, mod-eq_of_lt}
use native.Mathlib.Omega.{arith}
use lib.ListN.{length}
use Rattle.codec.specs.Bytes.{Bytes, part, put}
use Rattle.codec.proofs.Laws.{length_put, part_put}
use Rattle.ring.specs.Poly.{Poly, modulo, Alike, Below}
use Rattle.ring.specs.Slots.{poly, slot, encode}
use Rattle.ring.specs.Internal.{store}
use Rattle.ring.proofs.Bridge.{length_encode, poly_encode, encode_alike, poly_part, slot_put, slot_put_before, slot_put_after, slot_store, length_store, slot_poly}
use Rattle.scratch.specs.Internal.{InSlot}

-- the polynomial f modulo q stands in the slot at a place
pub record Holds (q n at : ℕ) (f : Poly) (w : Bytes) : Type 0 where
  pub is : (k : ℕ) → k < n → slot w at k ≡ f k % q

module _ {q n at : ℕ} where
  pub holds_below : {f : Poly} {w : Bytes} → 0 < q → Holds q n at f w → Below q n (slot w at)
  holds_below {f} p h = record { at = λ k l. rw (h.is k l) (mod-lt (f k) p) }

  pub holds_alike : {f : Poly} {w : Bytes} → Holds q n at f w → Alike q n (slot w at) f
  holds_alike {f} h = record { at = λ k l. record { is = ap (λ (x : ℕ). x % q) (h.is k l) ∙ mod-mod (f k) q } }

  -- what stands there, stands there
  pub holds_slot : (w : Bytes) → Below q n (slot w at) → Holds q n at (slot w at) w
  holds_slot w b = record { is = λ k l. sym (mod-eq_of_lt (b.at k l)) }

-- ---- a polynomial is put into a slot

module _ (q n : ℕ) (positive : 0 < q) (small : q < 2 ^ 56) (w w' : Bytes) (at : ℕ) (fits : at + 8 * n ≤ length w) where
  module _ (f : Poly) (e : w' ≡ store q n w at f) where
    pub stored : Holds q n at f w'
    stored = record { is = λ k l. ap (λ (x : Bytes). slot x at k) e ∙ slot_store q n w at f fits positive (omega arith) k l }

    pub stored_length : length w' ≡ length w
    stored_length = ap length e ∙ length_store q n w at f fits

    -- the other slots are as they were
    pub stored_other : {from : ℕ} {g : Poly} → (from + 8 * n ≤ at) ⊎ (at + 8 * n ≤ from) → Holds q n from g w → Holds q n from g w'
    unfolding store
    stored_other {from} apart h = record { is = λ k l. ap (λ (x : Bytes). slot x from k) e ∙ go apart k l ∙ h.is k l }
      where
        go : (from + 8 * n ≤ at) ⊎ (at + 8 * n ≤ from) → (k : ℕ) → k < n → slot (put w at (encode n (modulo q f))) from k ≡ slot w from k
        go (inl b) k l = slot_put_before w at (encode n (modulo q f)) from k (omega (arith, length_encode n (modulo q f))) (omega arith)
        go (inr b) k l = slot_put_after w at (encode n (modulo q f)) from k (omega (arith, length_encode n (modulo q f))) (omega (arith, length_encode n (modulo q f)))

  -- whole numbers below q, written as they are
  pub loaded : (f : Poly) → Below q n f → w' ≡ put w at (encode n f) → Holds q n at f w'
  loaded f b e = record {
    is = λ k l.
        ap (λ (x : Bytes). slot x at k) e ∙ slot_put w at (encode n f) k (omega (arith, length_encode n f)) (omega (arith, length_encode n f))
        ∙ poly_encode n f k l (let h = b.at k l in omega arith) ∙ sym (mod-eq_of_lt (b.at k l));
  }

  -- the bytes of a lent polynomial
  pub copied : (s : Bytes) → length s ≡ 8 * n → Below q n (poly s) → w' ≡ put w at s → Holds q n at (poly s) w'
  copied s l b e = record {
    is = λ k h. ap (λ (x : Bytes). slot x at k) e ∙ slot_put w at s k (omega arith) (omega arith) ∙ sym (mod-eq_of_lt (b.at k h));
  }

-- any bytes put behind or before a slot leave it
module _ (q n : ℕ) (w w' : Bytes) (at : ℕ) (s : Bytes) (fits : at + length s ≤ length w) (e : w' ≡ put w at s) where
  pub put_length : length w' ≡ length w
  put_length = ap length e ∙ length_put w at s fits

  pub put_other : {from : ℕ} {g : Poly} → (from + 8 * n ≤ at) ⊎ (at + length s ≤ from) → Holds q n from g w → Holds q n from g w'
  put_other {from} apart h = record { is = λ k l. ap (λ (x : Bytes). slot x from k) e ∙ go apart k l ∙ h.is k l }
    where
      go : (from + 8 * n ≤ at) ⊎ (at + length s ≤ from) → (k : ℕ) → k < n → slot (put w at s) from k ≡ slot w from k
      go (inl b) k l = slot_put_before w at s from k fits (omega arith)
      go (inr b) k l = slot_put_after w at s from k fits (omega arith)

-- ---- the head of scratch

module _ {q n : ℕ} {f : Poly} {w w' : Bytes} where
  pub stands_alike : {g : Poly} → InSlot q n f w w' → Alike q n f g → InSlot q n g w w'
  stands_alike h e = record { sized = h.sized; bytes = h.bytes ∙ encode_alike e }

  pub stands_after : {v : Bytes} → length w ≡ length v → InSlot q n f w w' → InSlot q n f v w'
  stands_after e h = record { sized = h.sized ∙ e; bytes = h.bytes }

  pub stands_holds : 0 < q → q < 2 ^ 56 → InSlot q n f w w' → Holds q n 0 f w'
  stands_holds p b h = record {
    is = λ k l.
        sym (poly_part w' 0 n k l) ∙ ap (λ (x : Bytes). poly x k) h.bytes
        ∙ poly_encode n (modulo q f) k l (unfold modulo in omega (arith, mod-lt (f k) {m = q} p)) ∙ (unfold modulo in refl);
  }

-- a polynomial that was stored at the head stands there
pub stands_stored : (q n : ℕ) (f : Poly) (v w w' : Bytes) → 8 * n ≤ length w → length w ≡ length v → w' ≡ store q n w 0 f → InSlot q n f v w'
unfolding store
stands_stored q n f v w w' h l e =
    let m = length_encode n (modulo q f) in
    record {
      sized = ap length e ∙ length_put w 0 (encode n (modulo q f)) (omega arith) ∙ l;
      bytes = ap (λ (x : Bytes). part x 0 (8 * n)) e ∙ ap (part (put w 0 (encode n (modulo q f))) 0) (sym m) ∙ part_put w 0 (encode n (modulo q f)) (omega arith);
    }

-- its coefficients
module _ (q n : ℕ) (f : Poly) (w w' : Bytes) (h : InSlot q n f w w') where
  pub stands_below : 0 < q → q < 2 ^ 56 → Below q n (poly w')
  stands_below p b = record { at = λ k l. rw (← slot_poly w' k) ((holds_below p (stands_holds p b h)).at k l) }

  pub stands_poly : 0 < q → q < 2 ^ 56 → (k : ℕ) → k < n → poly w' k ≡ f k % q
  stands_poly p b k l = sym (slot_poly w' k) ∙ (stands_holds p b h).is k l
