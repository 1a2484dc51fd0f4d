-- The three r and m are loaded, and the pair is compared: what stands in scratch before and after the pair is worked out. Assumes nothing.
use mathlib.Core.Path.{◌≡◌, refl, sym, ap, ap₂, ◌∙◌}
use mathlib.Core.Bool.{Bool, true, false, ◌&&◌}
use mathlib.Core.List.{[], ◌∷◌, ◌++◌}
use Prim.Native.Nat.{ℕ, ◌+◌, ◌*◌, ◌^◌, ◌≤◌, ◌<◌}
use native.Mathlib.Nat.{zero-add}
use native.Mathlib.Omega.{arith}
use lib.ListN.{length, take, drop}
use lib.Seq.{take_all}
use Rattle.codec.specs.Bytes.{Bytes, Octets, part, put, same}
use Rattle.codec.proofs.Laws.{length_part, part_append}
use Rattle.ring.specs.Poly.{Poly, Below}
use Rattle.ring.specs.Slots.{poly, slot, encode}
use Rattle.ring.specs.Ternary.{ternary}
use Rattle.ring.proofs.Bridge.{length_encode, encode_alike}
use Rattle.ring.proofs.Ranges.{below_ternary}
use Rattle.scratch.specs.Internal.{Polynomial}
use Rattle.scratch.proofs.Slotted.{Slotted, slotted_below, slotted_alike, slotted_load, slotted_copy, slotted_none}
use Rattle.commitment.specs.Commitment.{Keys, Three, Alike3, three_of, committed, pair_bytes, opens}
use Rattle.commitment.specs.Internal.{three_at, PairInSlots, with_three}
use Rattle.commitment.proofs.Additive.{row_alike, second_alike}

-- a lent part of ternary bytes, loaded
pub loaded_part : (q n : ℕ) (r t w w' : Bytes) (at to : ℕ) → at + n ≤ length r → t ≡ part r at n → w' ≡ put w to (encode (length t) (ternary q t)) → w' ≡ put w to (encode n (ternary q (part r at n)))
loaded_part q n r t w w' at to h i e =
    e ∙ ap (λ (s : Bytes). put w to (encode (length s) (ternary q s))) i ∙ ap (λ (m : ℕ). put w to (encode m (ternary q (part r at n)))) (length_part r at n h)

module _ (q n : ℕ) (high : n ≤ 2048) (positive : 0 < q) (few : q < 2 ^ 56) where
  -- ---- from four slots that hold r and m

  module _ (r : Three) (m : Poly) (w w2 : Bytes) (long : length w ≡ 1048576) (four : Slotted q n (r.r1 ∷ r.r2 ∷ r.r3 ∷ m ∷ []) w2) where
    pub commit_asks : (length w2 ≡ 1048576) × (Below q n (slot w2 0) × Below q n (slot w2 16384) × Below q n (slot w2 32768) × Below q n (slot w2 49152))
    commit_asks = (
      four.long,
      (
        slotted_below q n high positive few four 0 (omega arith),
        slotted_below q n high positive few four 1 (omega arith),
        slotted_below q n high positive few four 2 (omega arith),
        slotted_below q n high positive few four 3 (omega arith),
      ),
    )

    loaded : Alike3 q n (three_at w2) r
    loaded = record {
      r1 = slotted_alike q n high positive few four 0 (omega arith);
      r2 = slotted_alike q n high positive few four 1 (omega arith);
      r3 = slotted_alike q n high positive few four 2 (omega arith);
    }

    pub commit_made : (k : Keys) (w3 : Bytes) → PairInSlots q n (committed q n k (three_at w2) (slot w2 49152)) w2 w3 → PairInSlots q n (committed q n k r m) w w3
    commit_made k w3 h = record {
      sized = h.sized ∙ four.long ∙ sym long;
      one = h.one ∙ encode_alike (row_alike q n k loaded);
      two = h.two ∙ encode_alike (second_alike q n k loaded (slotted_alike q n high positive few four 3 (omega arith)));
    }

  -- ---- from lent bytes

  module _ (w w1 w2 m r : Bytes) (long : length w ≡ 1048576) (octets : Octets m) (lent : Polynomial n q m) (e1 : w1 ≡ with_three n w (three_of q n r)) (e2 : w2 ≡ put w1 49152 m) where
    three : Slotted q n ((three_of q n r).r1 ∷ (three_of q n r).r2 ∷ (three_of q n r).r3 ∷ []) w1
    unfolding with_three
    three =
        let a = slotted_load q n high positive few (slotted_none q n high positive few long) 0 (omega arith) (omega arith) (three_of q n r).r1 (below_ternary q n (part r 0 n) positive) refl in
        let b = slotted_load q n high positive few a 1 (omega arith) (omega arith) (three_of q n r).r2 (below_ternary q n (part r n n) positive) refl in
        slotted_load q n high positive few b 2 (omega arith) (omega arith) (three_of q n r).r3 (below_ternary q n (part r (2 * n) n) positive) e1

    four : Slotted q n ((three_of q n r).r1 ∷ (three_of q n r).r2 ∷ (three_of q n r).r3 ∷ poly m ∷ []) w2
    four = slotted_copy q n high positive few three 3 (omega arith) (omega arith) m octets lent.sized lent.below e2

    pub pair_asks : (length w2 ≡ 1048576) × (Below q n (slot w2 0) × Below q n (slot w2 16384) × Below q n (slot w2 32768) × Below q n (slot w2 49152))
    pair_asks = commit_asks (three_of q n r) (poly m) w w2 long four

    pub pair_made : (k : Keys) (w3 : Bytes) → PairInSlots q n (committed q n k (three_at w2) (slot w2 49152)) w2 w3 → PairInSlots q n (committed q n k (three_of q n r) (poly m)) w w3
    pair_made = commit_made (three_of q n r) (poly m) w w2 long four

-- ---- the pair is compared with lent bytes

same_append : (a b c d : Bytes) → length a ≡ length c → same (a ++ b) (c ++ d) ≡ (same a c && same b d)
unfolding same
same_append [] b [] d l = refl
same_append [] b (y ∷ c) d l = absurd (omega arith)
same_append (x ∷ a) b [] d l = absurd (omega arith)
same_append (x ∷ a) b (y ∷ c) d l = ap (λ (t : Bool). lib.Dec.eqb x y && t) (same_append a b c d (omega arith)) ∙ and_assoc (lib.Dec.eqb x y) (same a c) (same b d)
  where
    and_assoc : (s t u : Bool) → (s && (t && u)) ≡ ((s && t) && u)
    and_assoc true t u = refl
    and_assoc false t u = refl

module _ (q n : ℕ) (k : Keys) (c : Bytes) (r : Three) (m : Poly) (w w' : Bytes) (sized : length c ≡ 16 * n) (h : PairInSlots q n (committed q n k r m) w w') where
  -- the test by halves
  opens_halves : opens q n k c r m ≡ (same (part c 0 (8 * n)) (part w' 0 (8 * n)) && same (part c (8 * n) (8 * n)) (part w' 49152 (8 * n)))
  unfolding opens pair_bytes
  opens_halves =
      ap₂ same halved (ap₂ (λ (s t : Bytes). s ++ t) (sym h.one) (sym h.two))
      ∙ same_append (part c 0 (8 * n)) (part c (8 * n) (8 * n)) (part w' 0 (8 * n)) (part w' 49152 (8 * n)) (length_part c 0 (8 * n) (omega arith) ∙ sym (ap length h.one ∙ length_encode n _))
    where
      halved : c ≡ part c 0 (8 * n) ++ part c (8 * n) (8 * n)
      halved = sym (take_all (8 * n + 8 * n) c (omega arith)) ∙ part_append c 0 (8 * n) (8 * n) ∙ ap (λ (at : ℕ). part c 0 (8 * n) ++ part c at (8 * n)) (zero-add (8 * n))

  -- as the code compares them: parts of a length x that is 8n
  pub opens_no : (x y : ℕ) → x ≡ 8 * n → y ≡ 8 * n → same (take x c) (take y w') ≡ false → false ≡ opens q n k c r m
  opens_no x y ex ey e = sym (opens_halves ∙ ap (λ (b : Bool). b && same (part c (8 * n) (8 * n)) (part w' 49152 (8 * n))) (ap₂ (λ (u v : ℕ). same (take u c) (take v w')) (sym ex) (sym ey) ∙ e))

  pub opens_rest : (x y u v : ℕ) → x ≡ 8 * n → y ≡ 8 * n → u ≡ 8 * n → v ≡ 8 * n → same (take x c) (take y w') ≡ true
      → same (take u (drop (8 * n) c)) (take v (drop 49152 w')) ≡ opens q n k c r m
  opens_rest x y u v ex ey eu ev e =
      ap₂ (λ (i j : ℕ). same (take i (drop (8 * n) c)) (take j (drop 49152 w'))) eu ev
      ∙ sym (opens_halves ∙ ap (λ (b : Bool). b && same (part c (8 * n) (8 * n)) (part w' 49152 (8 * n))) (ap₂ (λ (i j : ℕ). same (take i c) (take j w')) (sym ex) (sym ey) ∙ e))
