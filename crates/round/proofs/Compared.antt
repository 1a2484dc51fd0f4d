-- The halves of the key and the claims, in scratch: what is compared with what. Assumes nothing.
use mathlib.Core.Path.{◌≡◌, sym, ap, ap₂, ◌∙◌}
use mathlib.Core.Logic.{◌≢◌}
use mathlib.Core.Bool.{true, false}
use mathlib.Core.List.{[], ◌∷◌}
use Prim.Native.Nat.{ℕ, suc, ◌+◌, ◌*◌, ◌%◌, ◌^◌, ◌≤◌, ◌<◌}
use native.Mathlib.Omega.{arith}
use lib.IntN.{nat_abs}
use lib.ListN.{length, take, drop, get_or}
use lib.Seq.{ext_get_or}
use Rattle.codec.specs.Bytes.{Bytes, Octets, part, put, same}
use Rattle.codec.proofs.Laws as Laws
use Rattle.codec.proofs.Laws.{not_same, length_part}
use Rattle.codec.specs.Lists.{list, all_below}
use Rattle.codec.proofs.Lists.{length_list, list_cong, get_d_list}
use Rattle.modular.specs.Modulo.{Same, remainder}
use Rattle.modular.specs.Division.{inverse, divide}
use Rattle.modular.proofs.Congruence.{same_eq, same_refl, same_mul}
use Rattle.ring.specs.Poly.{Poly, plus, modulo, Alike, Below}
use Rattle.ring.specs.Slots.{poly, slot, encode}
use Rattle.ring.specs.Internal.{store}
use Rattle.ring.proofs.Bridge.{poly_part, slot_later}
use Rattle.ring.proofs.Polynomials.{alike_refl, alike_minus, alike_mul}
use Rattle.scratch.specs.Internal.{Polynomial}
use Rattle.bgv.specs.Scheme.{recovered_mask, within, plaintext, rebuilt, reconstructed}
use Rattle.scratch.proofs.Slotted.{Slotted, slotted_none, slotted_copy, slotted_add, slotted_below}
use Rattle.commitment.proofs.Opening.{encode_bytes}
use Rattle.round.proofs.ExtractionSizes.{same_centre}

-- ---- two lent halves added at the head of scratch

module _ (n q : ℕ) (w w1 b0 : Bytes) (long : length w ≡ 1048576) (octets : Octets b0) (p0 : Polynomial n q b0) (e1 : w1 ≡ put w 0 b0) where
  positive : 0 < q
  positive = let s = p0.modulus_low in omega arith

  copied : Slotted q n (poly b0 ∷ []) w1
  copied = slotted_copy q n p0.ring_high positive p0.modulus_high (slotted_none q n p0.ring_high positive p0.modulus_high long) 0 (omega arith) (omega arith) b0 octets p0.sized p0.below e1

  pub add_asks : (8 * n ≤ length w1) × Below q n (slot w1 0)
  add_asks = (let h = p0.ring_high in omega (arith, copied.long), slotted_below q n p0.ring_high positive p0.modulus_high copied 0 (omega arith))

  module _ (w2 b1 b : Bytes) (e2 : w2 ≡ store q n w1 0 (plus (slot w1 0) (poly b1))) where
    added : Slotted q n (plus (poly b0) (poly b1) ∷ []) w2
    added = slotted_add q n p0.ring_high positive p0.modulus_high copied 0 (omega arith) (omega arith) (poly b1) (poly b1) alike_refl e2

    pub added_length : length w2 ≡ length w
    added_length = added.long ∙ sym long

    pub sum_compared : (m : ℕ) → m ≡ 8 * n → Octets b → Polynomial n q b → same (take m w2) b ≡ same (encode n (modulo q (plus (poly b0) (poly b1)))) (encode n (modulo q (poly b)))
    sum_compared m e o p = ap (λ (k : ℕ). same (take k w2) b) e ∙ ap₂ same (added.stands 0 (omega arith)) (encode_bytes q n b o p.sized p.below)

-- ---- a claim compared byte by byte

module _ (n : ℕ) (claim : Bytes) (f : Poly) (sized : length claim ≡ n) where
  pub other_claim : (i : ℕ) → i < n → get_or claim i 0 ≢ f i → false ≡ same claim (list n f)
  other_claim i h d = sym (not_same claim (list n f) (λ e. d (ap (λ (x : Bytes). get_or x i 0) e ∙ get_d_list n f i h)))

  pub same_claim : ((i : ℕ) → i < n → get_or claim i 0 ≡ f i) → true ≡ same claim (list n f)
  same_claim h = sym (ap (same claim) (sym (ext_get_or 0 claim (list n f) (sized ∙ sym (length_list n f)) (λ i l. h i (omega arith) ∙ sym (get_d_list n f i (omega arith))))) ∙ Laws.same_refl claim)

-- ---- what a mask and a vote go by: coefficients modulo q

same_divide : {q x y : ℕ} (p : ℕ) → Same q x y → divide q p x ≡ divide q p y
unfolding divide
same_divide {q} p e = (same_mul e (same_refl {x = inverse q p})).is

module _ (q n p : ℕ) where
  pub within_alike : (bound : ℕ) (s : Poly) {u u' t t' : Poly} → Alike q n u u' → Alike q n t t' → within bound n (recovered_mask q n p s u t) ≡ within bound n (recovered_mask q n p s u' t')
  unfolding within recovered_mask
  within_alike bound s eu et =
      ap (all_below (suc bound)) (list_cong n (λ k l. ap nat_abs (same_centre (record { is = ap (λ (x : ℕ). x % q) (same_divide p ((alike_minus et (alike_mul alike_refl eu)).at k l)) }))))

  pub vote_alike : {v v' a a' b b' : Poly} → Alike q n v v' → Alike q n a a' → Alike q n b b' → list n (reconstructed q p v a b) ≡ list n (reconstructed q p v' a' b')
  unfolding plaintext rebuilt
  vote_alike ev ea eb = list_cong n (λ k l. ap (remainder p) (same_centre ((alike_minus (alike_minus ev ea) eb).at k l)))

-- ---- a polynomial of a slice, lent on with a length that is a difference of places

module _ (n q : ℕ) (s : Bytes) (at m : ℕ) (e : m ≡ 8 * n) (fits : at + 8 * n ≤ length s) where
  is_part : take m (drop at s) ≡ part s at (8 * n)
  is_part = ap (λ (k : ℕ). take k (drop at s)) e

  reads : (k : ℕ) → k < n → poly (take m (drop at s)) k ≡ slot s at k
  reads k l = ap (λ (t : Bytes). poly t k) is_part ∙ poly_part s at n k l

  pub lent_alike : Alike q n (poly (take m (drop at s))) (slot s at)
  lent_alike = record { at = λ k l. same_eq (reads k l) }

  pub lent_public : 4 ≤ n → n ≤ 2048 → 3 ≤ q → q < 2 ^ 56 → Below q n (slot s at) → Polynomial n q (take m (drop at s))
  lent_public low high some few b = record {
    ring_low = low;
    ring_high = high;
    modulus_low = some;
    modulus_high = few;
    sized = ap length is_part ∙ length_part s at (8 * n) fits;
    below = record { at = λ k l. rw (reads k l) (b.at k l) };
  }

-- the second of two polynomials side by side
pub second_below : (n q : ℕ) (s : Bytes) (at : ℕ) → Below q (2 * n) (slot s at) → Below q n (slot s (at + 8 * n))
second_below n q s at b = record { at = λ k l. rw (slot_later s at n k) (b.at (n + k) (omega arith)) }

pub first_below : (n q : ℕ) (f : Poly) → Below q (2 * n) f → Below q n f
first_below n q f b = record { at = λ k l. b.at k (omega arith) }
