-- The steps of a ballot's shares and claim in scratch: what each leaves, and what the next one asks. Assumes nothing.
use mathlib.Core.Path.{◌≡◌, sym, ap, ◌∙◌}
use mathlib.Core.Logic.{inl, inr}
use mathlib.Core.List.{[], ◌∷◌}
use Prim.Native.Nat.{ℕ, ◌+◌, ◌*◌, ◌^◌, ◌≤◌, ◌<◌}
use native.Mathlib.Omega.{arith}
use lib.ListN.{length}
use Rattle.codec.specs.Bytes.{Bytes, Octets, part, put, zeros}
use Rattle.codec.proofs.Laws.{length_put, part_part, part_put, part_put_before}
use Rattle.modular.proofs.Congruence.{same_eq}
use Rattle.ring.specs.Poly.{Poly, plus, minus, scale, mul, modulo, Alike, Below}
use Rattle.ring.specs.Slots.{poly, slot, encode}
use Rattle.ring.specs.Internal.{from_signed, store, Slots}
use Rattle.ring.specs.Ternary.{ternary}
use Rattle.ring.proofs.Bridge.{length_encode, encode_alike}
use Rattle.ring.proofs.Polynomials.{plus_comm, alike_eq, alike_refl, ◌so◌, alike_plus, alike_minus, alike_scale}
use Rattle.ring.proofs.Ranges.{below_ternary}
use Rattle.scratch.specs.Internal.{Polynomial, InSlot}
use Rattle.scratch.proofs.Slots.{Holds, holds_below, holds_alike, holds_slot, stored, stored_length, stored_other, loaded, put_length, put_other, stands_alike, stands_stored}
use Rattle.scratch.proofs.Loads.{Loaded, residues_load, loaded_asks}
use Rattle.scratch.proofs.Slotted.{Slotted, slotted_none, slotted_load, slotted_copy, slotted_multiply, slotted_below}
use Rattle.bgv.specs.Scheme.{residues, lent_mask}
use Rattle.round.proofs.Written.{slot_part}
use Rattle.round_shares.specs.Internal.{TwoStand}

-- ---- s u and s0 u

module _ (q n : ℕ) (w w1 w2 s s0 u : Bytes) (half : Polynomial n q s0) (octets : Octets s0) (size : length s ≡ n) (long : length w ≡ 1048576)
    (e1 : w1 ≡ put w 0 (encode (length s) (ternary q s))) (e2 : w2 ≡ put w1 16384 s0) where
  positive : 0 < q
  positive = let h = half.modulus_low in omega arith

  held : Slotted q n (ternary q s ∷ poly s0 ∷ []) w2
  held =
      let none = slotted_none q n half.ring_high positive half.modulus_high long in
      let one = slotted_load q n half.ring_high positive half.modulus_high none 0 (omega arith) (omega arith) (ternary q s) (below_ternary q n s positive) (e1 ∙ ap (λ (k : ℕ). put w 0 (encode k (ternary q s))) size) in
      slotted_copy q n half.ring_high positive half.modulus_high one 1 (omega arith) (omega arith) s0 octets half.sized half.below e2

  pub first_asks : (65536 + 24 * n ≤ length w2) × Below q n (slot w2 0)
  first_asks = (let h = half.ring_high in omega (arith, held.long), slotted_below q n half.ring_high positive half.modulus_high held 0 (omega arith))

  module _ (w3 : Bytes) (e3 : w3 ≡ put (store q n w2 0 (mul q n (slot w2 0) (poly u))) 65536 (zeros (24 * n))) where
    once : Slotted q n (mul q n (ternary q s) (poly u) ∷ poly s0 ∷ []) w3
    once = let h = half.ring_high in slotted_multiply q n half.ring_high positive half.modulus_high held 0 (omega arith) (omega arith) (poly u) (poly u) 65536 alike_refl (omega arith) (omega arith) e3

    pub second_asks : (65536 + 24 * n ≤ length w3) × Below q n (slot w3 16384)
    second_asks = (let h = half.ring_high in omega (arith, once.long), slotted_below q n half.ring_high positive half.modulus_high once 1 (omega arith))

    pub products_stand : (w4 : Bytes) → w4 ≡ put (store q n w3 16384 (mul q n (slot w3 16384) (poly u))) 65536 (zeros (24 * n))
        → TwoStand q n (mul q n (ternary q s) (poly u)) (mul q n (poly s0) (poly u)) w w4
    products_stand w4 e4 =
        let h = half.ring_high in
        let both = slotted_multiply q n half.ring_high positive half.modulus_high once 1 (omega arith) (omega arith) (poly u) (poly u) 65536 alike_refl (omega arith) (omega arith) e4 in
        record { sized = both.long ∙ sym long; one = both.stands 0 (omega arith); two = both.stands 1 (omega arith) }

-- ---- what stands where a part of scratch is kept

module _ (n : ℕ) (w w' : Bytes) (m from : ℕ) (kept : part w' 0 m ≡ part w 0 m) (fits : from + 8 * n ≤ m) where
  kept_reads : (k : ℕ) → k < n → slot w' from k ≡ slot w from k
  kept_reads k l =
      let z : 0 + from ≡ from = omega arith in
      ap (λ (i : ℕ). slot w' i k) (sym z) ∙ sym (slot_part w' 0 m from k (omega arith)) ∙ ap (λ (s : Bytes). slot s from k) kept ∙ slot_part w 0 m from k (omega arith)
      ∙ ap (λ (i : ℕ). slot w i k) z

  pub kept_alike : {q : ℕ} → Alike q n (slot w' from) (slot w from)
  kept_alike = record { at = λ k l. same_eq (kept_reads k l) }

  pub kept_below : {q : ℕ} → Below q n (slot w from) → Below q n (slot w' from)
  kept_below b = record { at = λ k l. rw (kept_reads k l) (b.at k l) }

-- a shorter part is kept too
pub kept_head : (w w' : Bytes) (m l : ℕ) → l ≤ m → part w' 0 m ≡ part w 0 m → part w' 0 l ≡ part w 0 l
kept_head w w' m l h kept = sym (part_part w' 0 m 0 l (omega arith)) ∙ ap (λ (s : Bytes). part s 0 l) kept ∙ part_part w 0 m 0 l (omega arith)

module _ (q n : ℕ) (high : n ≤ 2048) (some : 3 ≤ q) (few : q < 2 ^ 56) (w : Bytes) (long : length w ≡ 1048576) where
  above : 0 < q
  above = omega arith

  -- what stands before a slot is kept when the slot is filled
  kept_put : (v v' : Bytes) (at m : ℕ) (f : Poly) → length v ≡ 1048576 → at + 8 * n ≤ 1048576 → m ≤ at → v' ≡ put v at (encode n f) → part v' 0 m ≡ part v 0 m
  kept_put v v' at m f l fits h e =
      let lf = length_encode n f in
      ap (λ (s : Bytes). part s 0 m) e ∙ part_put_before v at (encode n f) 0 m (omega arith) (omega arith)

  -- ---- p E is added to what stands in a slot

  module _ (p : ℕ) (w1 mask : Bytes) (from : ℕ) (fits : from + 8 * n ≤ 49152) (below : Below q n (slot w from)) (e1 : w1 ≡ put w 49152 (encode n (from_signed q mask))) where
    abbrev E : Poly
    E = residues q (lent_mask mask)

    mask_there : Loaded q n 49152 E w w1
    unfolding from_signed
    mask_there = residues_load q n high some few w w1 49152 long (omega arith) (lent_mask mask) e1

    room : 49152 + length mask_there.bytes ≤ length w
    room = omega (arith, mask_there.sized)

    long1 : length w1 ≡ 1048576
    long1 = put_length q n w w1 49152 mask_there.bytes room mask_there.is ∙ long

    x1 : Holds q n from (slot w from) w1
    x1 = put_other q n w w1 49152 mask_there.bytes room mask_there.is (inl fits) (holds_slot w below)

    pub scale_asks : (49152 + 8 * n ≤ length w1) × Below q n (slot w1 49152)
    scale_asks = loaded_asks q n high some few 49152 E w w1 long (omega arith) mask_there

    module _ (w2 : Bytes) (e2 : w2 ≡ store q n w1 49152 (scale p (slot w1 49152))) where
      long2 : length w2 ≡ 1048576
      long2 = stored_length q n above few w1 w2 49152 (omega (arith, long1)) (scale p (slot w1 49152)) e2 ∙ long1

      x2 : Holds q n from (slot w from) w2
      x2 = stored_other q n above few w1 w2 49152 (omega (arith, long1)) (scale p (slot w1 49152)) e2 (inl fits) x1

      y2 : Holds q n 49152 (scale p (slot w1 49152)) w2
      y2 = stored q n above few w1 w2 49152 (omega (arith, long1)) (scale p (slot w1 49152)) e2

      pub add_asks : Slots n from 49152 w2 × Below q n (slot w2 from) × Below q n (slot w2 49152)
      add_asks = (record { one = omega (arith, long2); other = omega (arith, long2); apart = inr fits }, holds_below above x2, holds_below above y2)

      module _ (w3 : Bytes) (e3 : w3 ≡ store q n w2 from (plus (slot w2 from) (slot w2 49152))) where
        pub masked_length : length w3 ≡ 1048576
        masked_length = stored_length q n above few w2 w3 from (omega (arith, long2)) (plus (slot w2 from) (slot w2 49152)) e3 ∙ long2

        pub masked : part w3 from (8 * n) ≡ encode n (modulo q (plus (slot w from) (scale p E)))
        unfolding store
        masked =
            let f = plus (slot w2 from) (slot w2 49152) in
            let l = length_encode n (modulo q f) in
            ap (λ (s : Bytes). part s from (8 * n)) e3 ∙ ap (part (put w2 from (encode n (modulo q f))) from) (sym l) ∙ part_put w2 from (encode n (modulo q f)) (omega (arith, long2))
            ∙ encode_alike (alike_plus (holds_alike x2) (holds_alike y2 so alike_scale p (holds_alike mask_there.holds)))

        pub masked_keeps : part w3 0 from ≡ part w 0 from
        unfolding store
        masked_keeps =
            kept_put w2 w3 from from _ long2 (omega arith) (omega arith) e3 ∙ kept_put w1 w2 49152 from _ long1 (omega arith) (omega arith) e2
            ∙ kept_put w w1 49152 from (from_signed q mask) long (omega arith) (omega arith) e1

  -- ---- the difference at 32,768 of a slot that is copied there and of the slot at 16,384: s u - s0 u, where those are s u and s0 u

  module _ (from : ℕ) (w1 : Bytes) (e1 : w1 ≡ put w 32768 (encode n (slot w from))) (one : Below q n (slot w from)) (two : Below q n (slot w 16384)) where
    copied_length : length w1 ≡ 1048576
    copied_length = ap length e1 ∙ length_put w 32768 (encode n (slot w from)) (omega (arith, length_encode n (slot w from))) ∙ long

    copied : Holds q n 32768 (slot w from) w1
    copied = loaded q n above few w w1 32768 (omega arith) (slot w from) one e1

    copy_keeps : part w1 0 32768 ≡ part w 0 32768
    copy_keeps = kept_put w w1 32768 32768 (slot w from) long (omega arith) (omega arith) e1

    pub subtract_asks : Slots n 32768 16384 w1 × Below q n (slot w1 32768) × Below q n (slot w1 16384)
    subtract_asks = (
      record { one = omega (arith, copied_length); other = omega (arith, copied_length); apart = inl (omega arith) },
      holds_below above copied,
      kept_below n w w1 32768 16384 copy_keeps (omega arith) two,
    )

    module _ (w2 : Bytes) (e2 : w2 ≡ store q n w1 32768 (minus q (slot w1 32768) (slot w1 16384))) where
      pub difference_length : length w2 ≡ 1048576
      difference_length = stored_length q n above few w1 w2 32768 (omega (arith, copied_length)) (minus q (slot w1 32768) (slot w1 16384)) e2 ∙ copied_length

      difference : Holds q n 32768 (minus q (slot w1 32768) (slot w1 16384)) w2
      difference = stored q n above few w1 w2 32768 (omega (arith, copied_length)) (minus q (slot w1 32768) (slot w1 16384)) e2

      pub difference_below : Below q n (slot w2 32768)
      difference_below = holds_below above difference

      pub difference_alike : Alike q n (slot w2 32768) (minus q (slot w from) (slot w 16384))
      difference_alike = holds_alike difference so alike_minus (holds_alike copied) (kept_alike n w w1 32768 16384 copy_keeps (omega arith))

      pub difference_keeps : part w2 0 32768 ≡ part w 0 32768
      unfolding store
      difference_keeps = kept_put w1 w2 32768 32768 _ copied_length (omega arith) (omega arith) e2 ∙ copy_keeps

  -- ---- v and a multiple of what stands at 0: v - s u, where that is s u and the factor is -1

  module _ (c : ℕ) (v : Poly) (w1 : Bytes) (e1 : w1 ≡ store q n w 0 (scale c (slot w 0))) where
    scaled : Holds q n 0 (scale c (slot w 0)) w1
    scaled = stored q n above few w w1 0 (omega arith) (scale c (slot w 0)) e1

    scaled_length : length w1 ≡ length w
    scaled_length = stored_length q n above few w w1 0 (omega arith) (scale c (slot w 0)) e1

    pub add_lent_asks : (8 * n ≤ length w1) × Below q n (slot w1 0)
    add_lent_asks = (omega (arith, scaled_length), holds_below above scaled)

    pub opened_stands : (w2 : Bytes) → w2 ≡ store q n w1 0 (plus (slot w1 0) v) → InSlot q n (plus v (scale c (slot w 0))) w w2
    opened_stands w2 e2 =
        stands_alike (stands_stored q n (plus (slot w1 0) v) w w1 w2 (omega (arith, scaled_length)) scaled_length e2)
        (alike_plus (holds_alike scaled) alike_refl so alike_eq (plus_comm (scale c (slot w 0)) v))
