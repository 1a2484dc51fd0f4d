-- The steps that work a pair out in scratch: what the slots hold after each. Assumes nothing.
use mathlib.Core.Path.{◌≡◌, refl, sym, ap, ◌∙◌}
use mathlib.Core.Logic.{◌⊎◌, inl, inr}
use mathlib.Core.List.{List, [], ◌∷◌}
use Prim.Native.Nat.{ℕ, ◌+◌, ◌-◌, ◌*◌, ◌%◌, ◌^◌, ◌≤◌, ◌<◌}
use native.Mathlib.Nat.{mod-lt}
use native.Mathlib.Omega.{arith}
use lib.ListN.{length, take, drop, get_or}
use Rattle.codec.specs.Bytes.{Bytes, Octets, part, put}
use Rattle.modular.proofs.Congruence.{same_eq, same_mod, ◌then◌}
use Rattle.ring.specs.Poly.{Poly, plus, mul, zero_poly, modulo, Alike, Below}
use Rattle.ring.specs.Slots.{poly, slot, encode}
use Rattle.ring.specs.Internal.{store, Slots}
use Rattle.ring.proofs.Bridge.{poly_part, store_alike, after_multiply, length_multiplied, slot_multiplied, slot_beside}
use Rattle.ring.proofs.Polynomials.{plus_comm, plus_assoc, plus_left_comm, mul_poly_comm, alike_plus, alike_mul}
use Rattle.scratch.specs.Internal.{Polynomial}
use Rattle.scratch.proofs.Slotted.{Slotted, place, place_length, slotted_below, slotted_alike, slotted_slots, slotted_store, slotted_add, slotted_copy_slot, slotted_multiply, slotted_none, slotted_next}
use Rattle.commitment.specs.Commitment.{keys_of, row, second, committed}
use Rattle.commitment.specs.Internal.{three_at, PublicKeys, PairInSlots, with_product}

-- a lent part of the keys
pub key_alike : (q n : ℕ) (k a : Bytes) (at : ℕ) → a ≡ part k at (8 * n) → Alike q n (poly a) (slot k at)
key_alike q n k a at e = record { at = λ j l. same_eq (ap (λ (s : Bytes). poly s j) e ∙ poly_part k at n j l) }

module _ (q n : ℕ) (high : n ≤ 2048) (positive : 0 < q) (few : q < 2 ^ 56) where
  -- ---- a product is added: by hand, for slots at any places

  module _ (w : Bytes) (to from : ℕ) (a : Poly) (long : length w ≡ 1048576) (slots : Slots n to from w) (low : to + 8 * n ≤ 81920) (low' : from + 8 * n ≤ 81920) where
    abbrev product : Poly
    product = mul q n (slot w from) a

    abbrev w1 : Bytes
    w1 = after_multiply q n w from 81920 product low' (omega arith)

    w1_length : length w1 ≡ length w
    w1_length = length_multiplied q n w from 81920 product low' (omega arith)

    there : (j : ℕ) → j < n → slot w1 from j ≡ product j % q
    there j l = slot_multiplied q n w from 81920 product low' (omega arith) positive (omega arith) j l

    beside : (j : ℕ) → j < n → slot w1 to j ≡ slot w to j
    beside j l = slot_beside q n w from 81920 product low' (omega arith) to j (omega arith) (go slots.apart)
      where
        go : (from + 8 * n ≤ to) ⊎ (to + 8 * n ≤ from) → (to + 8 * j + 8 ≤ from) ⊎ (from + 8 * n ≤ to + 8 * j)
        go (inl h) = inr (omega arith)
        go (inr h) = inl (omega arith)

    module _ (v : Bytes) (is : v ≡ w1) where
      pub add_asks : Below q n (slot w to) → Slots n to from v × Below q n (slot v to) × Below q n (slot v from)
      add_asks b = rw is (
        record { one = omega (arith, w1_length, slots.one); other = omega (arith, w1_length, slots.other); apart = slots.apart },
        record { at = λ j l. rw (beside j l) (b.at j l) },
        record { at = λ j l. rw (there j l) (mod-lt (product j) positive) },
      )

      pub product_added : (w2 : Bytes) → w2 ≡ store q n v to (plus (slot v to) (slot v from)) → w2 ≡ with_product q n w to from a
      unfolding with_product
      product_added w2 e =
          e ∙ ap (λ (x : Bytes). store q n x to (plus (slot x to) (slot x from))) is
          ∙ store_alike w1 to (alike_plus (record { at = λ j l. same_eq (beside j l) }) (record { at = λ j l. same_eq (there j l) then same_mod }))

  -- ---- the same for a slotted

  pub slotted_product : {fs : List Poly} {w w' : Bytes} → Slotted q n fs w → (j i : ℕ) → j < length fs → i < length fs → length fs ≤ 5 → (a b : Poly) → Alike q n a b
      → w' ≡ with_product q n w (16384 * j) (16384 * i) a
      → Slotted q n (place (place fs i (mul q n (get_or fs i zero_poly) b)) j (plus (get_or fs j zero_poly) (mul q n (get_or fs i zero_poly) b))) w'
  unfolding with_product
  slotted_product {fs} {w} s j i h l five a b x e =
      let m = alike_mul (slotted_alike q n high positive few s i l) x in
      let t = slotted_multiply q n high positive few s i l (omega arith) a b 81920 x (omega arith) (omega arith) refl in
      slotted_store q n high positive few t j (omega (arith, place_length fs i (mul q n (get_or fs i zero_poly) b) l)) (omega arith) _ _ (alike_plus (slotted_alike q n high positive few s j h) m) e

  -- what adding a product asks
  pub product_asks : {fs : List Poly} {w : Bytes} → Slotted q n fs w → (j i : ℕ) → j < length fs → i < length fs → length fs ≤ 5 → (i < j) ⊎ (j < i) → (a : Bytes) → Polynomial n q a
      → Polynomial n q a × (length w ≡ 1048576) × Slots n (16384 * j) (16384 * i) w × (16384 * j + 8 * n ≤ 81920) × (16384 * i + 8 * n ≤ 81920) × Below q n (slot w (16384 * j)) × Below q n (slot w (16384 * i))
  product_asks s j i h l five d a p = (
    p,
    s.long,
    slotted_slots q n high positive few s j i (omega arith) (omega arith) d,
    omega arith,
    omega arith,
    slotted_below q n high positive few s j h,
    slotted_below q n high positive few s i l,
  )

  -- ---- a pair

  module _ (k w : Bytes) (keys : PublicKeys n q k) (octets : Octets w) (long : length w ≡ 1048576)
      (below : Below q n (slot w 0) × Below q n (slot w 16384) × Below q n (slot w 32768) × Below q n (slot w 49152)) where
    -- the keys as they are lent on
    abbrev k1 : Bytes
    k1 = take (8 * n - 0) k

    abbrev k2 : Bytes
    k2 = take (16 * n - 8 * n) (drop (8 * n) k)

    abbrev k3 : Bytes
    k3 = take (24 * n - 16 * n) (drop (16 * n) k)

    is1 : k1 ≡ part k 0 (8 * n)
    is1 = let e : 8 * n - 0 ≡ 8 * n = omega arith in ap (λ (x : ℕ). take x k) e

    is2 : k2 ≡ part k (8 * n) (8 * n)
    is2 = let e : 16 * n - 8 * n ≡ 8 * n = omega arith in ap (λ (x : ℕ). take x (drop (8 * n) k)) e

    is3 : k3 ≡ part k (16 * n) (8 * n)
    is3 = let e : 24 * n - 16 * n ≡ 8 * n = omega arith in ap (λ (x : ℕ). take x (drop (16 * n) k)) e

    pub public1 : Polynomial n q k1
    public1 = rw is1 keys.one

    pub public2 : Polynomial n q k2
    public2 = rw is2 keys.two

    pub public3 : Polynomial n q k3
    public3 = rw is3 keys.three

    abbrev r1 : Poly
    r1 = slot w 0

    abbrev r2 : Poly
    r2 = slot w 16384

    abbrev r3 : Poly
    r3 = slot w 32768

    abbrev m : Poly
    m = slot w 49152

    pub slotted0 : Slotted q n (r1 ∷ r2 ∷ r3 ∷ m ∷ []) w
    slotted0 =
        let a = slotted_next q n high positive few (slotted_none q n high positive few long) octets 0 refl (omega arith) below.0 in
        let b = slotted_next q n high positive few a octets 1 refl (omega arith) below.1 in
        let c = slotted_next q n high positive few b octets 2 refl (omega arith) below.2 in
        slotted_next q n high positive few c octets 3 refl (omega arith) below.3

    module _ (w1 : Bytes) (e1 : w1 ≡ put w 65536 (encode n (slot w 32768))) where
      pub slotted1 : Slotted q n (r1 ∷ r2 ∷ r3 ∷ m ∷ r3 ∷ []) w1
      slotted1 = slotted_copy_slot q n high positive few slotted0 4 2 (omega arith) (omega arith) (omega arith) e1

      module _ (w2 : Bytes) (e2 : w2 ≡ with_product q n w1 49152 65536 (poly k3)) where
        abbrev p3 : Poly
        p3 = mul q n r3 (slot k (16 * n))

        pub slotted2 : Slotted q n (r1 ∷ r2 ∷ r3 ∷ plus m p3 ∷ p3 ∷ []) w2
        slotted2 = slotted_product slotted1 3 4 (omega arith) (omega arith) (omega arith) (poly k3) (slot k (16 * n)) (key_alike q n k k3 (16 * n) is3) e2

        module _ (w3 : Bytes) (e3 : w3 ≡ store q n w2 49152 (plus (slot w2 49152) (slot w2 16384))) where
          pub slotted3 : Slotted q n (r1 ∷ r2 ∷ r3 ∷ plus (plus m p3) r2 ∷ p3 ∷ []) w3
          slotted3 = slotted_add q n high positive few slotted2 3 (omega arith) (omega arith) (slot w2 16384) r2 (slotted_alike q n high positive few slotted2 1 (omega arith)) e3

          module _ (w4 : Bytes) (e4 : w4 ≡ with_product q n w3 0 16384 (poly k1)) where
            abbrev p1 : Poly
            p1 = mul q n r2 (slot k 0)

            pub slotted4 : Slotted q n (plus r1 p1 ∷ p1 ∷ r3 ∷ plus (plus m p3) r2 ∷ p3 ∷ []) w4
            slotted4 = slotted_product slotted3 0 1 (omega arith) (omega arith) (omega arith) (poly k1) (slot k 0) (key_alike q n k k1 0 is1) e4

            module _ (w5 : Bytes) (e5 : w5 ≡ with_product q n w4 0 32768 (poly k2)) where
              abbrev p2 : Poly
              p2 = mul q n r3 (slot k (8 * n))

              slotted5 : Slotted q n (plus (plus r1 p1) p2 ∷ p1 ∷ p2 ∷ plus (plus m p3) r2 ∷ p3 ∷ []) w5
              slotted5 = slotted_product slotted4 0 2 (omega arith) (omega arith) (omega arith) (poly k2) (slot k (8 * n)) (key_alike q n k k2 (8 * n) is2) e5

              is_row : plus (plus r1 p1) p2 ≡ row q n (keys_of n k) (three_at w)
              unfolding row
              is_row = rw (mul_poly_comm q n r2 (slot k 0), mul_poly_comm q n r3 (slot k (8 * n))) refl

              is_second : plus (plus m p3) r2 ≡ second q n (keys_of n k) (three_at w) m
              unfolding second
              is_second = rw (mul_poly_comm q n r3 (slot k (16 * n))) (simp (plus_assoc, plus_comm, plus_left_comm))

              pub pair_stands : PairInSlots q n (committed q n (keys_of n k) (three_at w) m) w w5
              pair_stands = record {
                sized = slotted5.long ∙ sym long;
                one = slotted5.stands 0 (omega arith) ∙ ap (λ (f : Poly). encode n (modulo q f)) is_row;
                two = slotted5.stands 3 (omega arith) ∙ ap (λ (f : Poly). encode n (modulo q f)) is_second;
              }
