-- The equations two at a time, in scratch: what the loads, the sums and the subtractions leave. Assumes nothing.
use mathlib.Core.Path.{◌≡◌, sym, ap, ◌∙◌}
use mathlib.Core.Bool.{Bool, true, false}
use mathlib.Core.List.{[], ◌∷◌}
use Prim.Native.Nat.{ℕ, ◌+◌, ◌-◌, ◌*◌, ◌/◌, ◌^◌, ◌≤◌, ◌<◌}
use native.Mathlib.Nat.{zero-add}
use native.Mathlib.Omega.{arith}
use lib.ListN.{length, take, drop}
use Rattle.codec.specs.Bytes.{Bytes, Octets, part, put}
use Rattle.codec.proofs.Laws.{length_part, length_put, put_put, part_put, part_put_before, part_put_after, octets_part}
use Rattle.modular.proofs.Congruence.{same_eq}
use Rattle.ring.specs.Poly.{Poly, plus, minus, modulo, Alike, Below}
use Rattle.ring.specs.Slots.{poly, slot, encode}
use Rattle.ring.specs.Internal.{store}
use Rattle.ring.proofs.Bridge.{length_encode, poly_part, slot_later, slot_poly, slot_put, encode_alike, store_alike, store_store, length_store, alike_store, below_store}
use Rattle.ring.proofs.Polynomials.{alike_refl, ◌so◌, alike_plus, alike_minus}
use Rattle.scratch.proofs.Slotted.{Slotted, encoded_below, encoded_alike, slotted_store, slotted_copy, slotted_none}
use Rattle.commitment.specs.Commitment.{Keys, Three, Pair, plus3, committed}
use Rattle.commitment.specs.Internal.{three_at, PairInSlots}
use Rattle.commitment.proofs.Additive.{second_alike}
use Rattle.commitment.proofs.Loading.{commit_asks, commit_made}
use Rattle.stern.specs.Internal.{words_at, three_words, summed_pair, less_pairs, equation_pair}

-- ---- n words of a lent vector from a word on, as they are lent on

module _ (q n : ℕ) (x : Bytes) (from : ℕ) (fits : 8 * from + 8 * n ≤ length x) (below : Below q (length x / 8) (poly x)) where
  abbrev pub lent : Bytes
  lent = take (8 * from + 8 * n - 8 * from) (drop (8 * from) x)

  is_part : lent ≡ part x (8 * from) (8 * n)
  is_part = let e : 8 * from + 8 * n - 8 * from ≡ 8 * n = omega arith in ap (λ (k : ℕ). take k (drop (8 * from) x)) e

  pub lent_length : length lent ≡ 8 * n
  lent_length = ap length is_part ∙ length_part x (8 * from) (8 * n) fits

  pub lent_reads : (k : ℕ) → k < n → poly lent k ≡ words_at x from k
  lent_reads k l = ap (λ (s : Bytes). poly s k) is_part ∙ poly_part x (8 * from) n k l

  pub lent_alike : Alike q n (poly lent) (words_at x from)
  lent_alike = record { at = λ k l. same_eq (lent_reads k l) }

  pub words_below : Below q n (words_at x from)
  words_below = record { at = λ k l. rw (ap (λ (j : ℕ). slot x j k) (sym (zero-add (8 * from))) ∙ slot_later x 0 from k ∙ slot_poly x (from + k)) (below.at (from + k) (omega arith)) }

  pub lent_below : Below q n (poly lent)
  lent_below = record { at = λ k l. rw (lent_reads k l) (words_below.at k l) }

  pub lent_octets : Octets x → Octets lent
  lent_octets o = rw is_part (octets_part x (8 * from) (8 * n) o)

-- ---- a lent polynomial copied into a slot, and another added

module _ (q n : ℕ) (w w1 w2 a b : Bytes) (at : ℕ) (fits : at + 8 * n ≤ length w) (sized : length a ≡ 8 * n) (f g : Poly) (af : Alike q n (poly a) f) (bg : Alike q n (poly b) g)
    (e1 : w1 ≡ put w at a) where
  pub copied_reads : (k : ℕ) → k < n → slot w1 at k ≡ poly a k
  copied_reads k l = ap (λ (v : Bytes). slot v at k) e1 ∙ slot_put w at a k (omega arith) (omega arith)

  pub copied_length : length w1 ≡ length w
  copied_length = ap length e1 ∙ length_put w at a (omega arith)

  pub sum_loaded : w2 ≡ store q n w1 at (plus (slot w1 at) (poly b)) → w2 ≡ store q n w at (plus f g)
  unfolding store
  sum_loaded e2 =
      e2 ∙ ap (put w1 at) (encode_alike (alike_plus (record { at = λ k l. same_eq (copied_reads k l) } so af) bg)) ∙ ap (λ (v : Bytes). put v at (encode n (modulo q (plus f g)))) e1
      ∙ put_put w at a (encode n (modulo q (plus f g))) (omega arith) (length_encode n (modulo q (plus f g)) ∙ sym sized)

-- ---- two lent polynomials subtracted from what stands in a slot

module _ (q n : ℕ) (positive : 0 < q) (few : q < 2 ^ 56) (w w1 w2 a b : Bytes) (at : ℕ) (fits : at + 8 * n ≤ length w) (f g : Poly) (af : Alike q n (poly a) f) (bg : Alike q n (poly b) g)
    (e1 : w1 ≡ store q n w at (minus q (slot w at) (poly a))) where
  pub less_length : length w1 ≡ length w
  less_length = ap length e1 ∙ length_store q n w at (minus q (slot w at) (poly a)) fits

  pub less_below : Below q n (slot w1 at)
  less_below = rw e1 (below_store q n w at (minus q (slot w at) (poly a)) fits positive (omega arith))

  less_alike : Alike q n (slot w1 at) (minus q (slot w at) f)
  less_alike = rw e1 (alike_store q n w at (minus q (slot w at) (poly a)) fits positive (omega arith)) so alike_minus alike_refl af

  pub two_less : w2 ≡ store q n w1 at (minus q (slot w1 at) (poly b)) → w2 ≡ store q n w at (minus q (minus q (slot w at) f) g)
  two_less e2 =
      e2 ∙ store_alike w1 at (alike_minus less_alike bg) ∙ ap (λ (v : Bytes). store q n v at (minus q (minus q (slot w at) f) g)) e1
      ∙ store_store q n w at (minus q (slot w at) (poly a)) (minus q (minus q (slot w at) f) g) fits

module _ (q n : ℕ) (high : n ≤ 2048) (positive : 0 < q) (few : q < 2 ^ 56) where
  -- ---- the summed r and the message loaded

  module _ (w w1 w2 w3 w4 x : Bytes) (first message : ℕ) (long : length w ≡ 1048576) (fits : 8 * message + 8 * n ≤ length x) (below : Below q (length x / 8) (poly x)) (octets : Octets x)
      (e1 : w1 ≡ store q n w 0 (plus (words_at x first) (words_at x (first + 3 * n))))
      (e2 : w2 ≡ store q n w1 16384 (plus (words_at x (first + n)) (words_at x (first + 4 * n))))
      (e3 : w3 ≡ store q n w2 32768 (plus (words_at x (first + 2 * n)) (words_at x (first + 5 * n))))
      (e4 : w4 ≡ put w3 49152 (lent q n x message fits below)) where
    abbrev summed : Three
    summed = plus3 (three_words n x first) (three_words n x (first + 3 * n))

    later : (m k : ℕ) → m ≡ k → Alike q n (words_at x m) (words_at x k)
    later m k e = rw e alike_refl

    loaded : Slotted q n (summed.r1 ∷ summed.r2 ∷ summed.r3 ∷ poly (lent q n x message fits below) ∷ []) w4
    loaded =
        let a = slotted_store q n high positive few (slotted_none q n high positive few long) 0 (omega arith) (omega arith) _ summed.r1 alike_refl e1 in
        let b = slotted_store q n high positive few a 1 (omega arith) (omega arith) _ summed.r2 (alike_plus alike_refl (later (first + 4 * n) (first + 3 * n + n) (omega arith))) e2 in
        let c = slotted_store q n high positive few b 2 (omega arith) (omega arith) _ summed.r3 (alike_plus alike_refl (later (first + 5 * n) (first + 3 * n + 2 * n) (omega arith))) e3 in
        slotted_copy q n high positive few c 3 (omega arith) (omega arith) (lent q n x message fits below) (lent_octets q n x message fits below octets) (lent_length q n x message fits below) (lent_below q n x message fits below) e4

    pub sums_ask : (length w4 ≡ 1048576) × (Below q n (slot w4 0) × Below q n (slot w4 16384) × Below q n (slot w4 32768) × Below q n (slot w4 49152))
    sums_ask = commit_asks q n high positive few summed (poly (lent q n x message fits below)) w w4 long loaded

    pub sums_made : (k : Keys) (w5 : Bytes) → PairInSlots q n (committed q n k (three_at w4) (slot w4 49152)) w4 w5 → PairInSlots q n (summed_pair q n k x first message) w w5
    sums_made k w5 h =
        let m = commit_made q n high positive few summed (poly (lent q n x message fits below)) w w4 long loaded k w5 h in
        record {
          sized = m.sized;
          one = m.one;
          two = m.two ∙ encode_alike (second_alike q n k (record { r1 = alike_refl; r2 = alike_refl; r3 = alike_refl }) (lent_alike q n x message fits below));
        }

  -- ---- the right-hand sides subtracted

  module _ (w w1 c : Bytes) (p : Pair) (from : ℕ) (long : length w ≡ 1048576) (h : PairInSlots q n p w w1) where
    pub row_below : Below q n (slot w1 0)
    row_below = encoded_below q n high positive few w1 0 p.one h.one

    module _ (w2 : Bytes) (e2 : w2 ≡ store q n w1 0 (minus q (minus q (slot w1 0) (words_at c from)) (words_at c (from + 2 * n)))) where
      abbrev less1 : Poly
      less1 = minus q (minus q (slot w1 0) (words_at c from)) (words_at c (from + 2 * n))

      room : 0 + length (encode n (modulo q less1)) ≤ length w1
      room = omega (arith, length_encode n (modulo q less1), h.sized)

      pub second_length : length w2 ≡ 1048576
      unfolding store
      second_length = ap length e2 ∙ length_put w1 0 (encode n (modulo q less1)) room ∙ h.sized ∙ long

      second_kept : part w2 49152 (8 * n) ≡ encode n (modulo q p.two)
      unfolding store
      second_kept = ap (λ (v : Bytes). part v 49152 (8 * n)) e2 ∙ part_put_after w1 0 (encode n (modulo q less1)) 49152 (8 * n) room (omega (arith, length_encode n (modulo q less1))) ∙ h.two

      pub second_below : Below q n (slot w2 49152)
      second_below = encoded_below q n high positive few w2 49152 p.two second_kept

      first_less : part w2 0 (8 * n) ≡ encode n (modulo q less1)
      unfolding store
      first_less = ap (λ (v : Bytes). part v 0 (8 * n)) e2 ∙ ap (part (put w1 0 (encode n (modulo q less1))) 0) (sym (length_encode n (modulo q less1))) ∙ part_put w1 0 (encode n (modulo q less1)) room

      module _ (w3 : Bytes) (e3 : w3 ≡ store q n w2 49152 (minus q (minus q (slot w2 49152) (words_at c (from + n))) (words_at c (from + 3 * n)))) where
        abbrev less2 : Poly
        less2 = minus q (minus q (slot w2 49152) (words_at c (from + n))) (words_at c (from + 3 * n))

        room2 : 49152 + length (encode n (modulo q less2)) ≤ length w2
        room2 = omega (arith, length_encode n (modulo q less2), second_length)

        pub pairs_less : PairInSlots q n (less_pairs q n p c from) w w3
        unfolding store
        pairs_less = record {
          sized = ap length e3 ∙ length_put w2 49152 (encode n (modulo q less2)) room2 ∙ second_length ∙ sym long;
          one =
              ap (λ (v : Bytes). part v 0 (8 * n)) e3 ∙ part_put_before w2 49152 (encode n (modulo q less2)) 0 (8 * n) room2 (omega arith) ∙ first_less
              ∙ encode_alike (alike_minus (alike_minus (encoded_alike q n high positive few w1 0 p.one h.one) alike_refl) alike_refl);
          two =
              ap (λ (v : Bytes). part v 49152 (8 * n)) e3 ∙ ap (part (put w2 49152 (encode n (modulo q less2))) 49152) (sym (length_encode n (modulo q less2)))
              ∙ part_put w2 49152 (encode n (modulo q less2)) room2
              ∙ encode_alike (alike_minus (alike_minus (encoded_alike q n high positive few w2 49152 p.two second_kept) alike_refl) alike_refl);
        }

-- by the flag
module _ (q n : ℕ) (k : Keys) (c : Bytes) (less : Bool) (x : Bytes) (first message from : ℕ) (w w' : Bytes) where
  pub when_less : less ≡ true → PairInSlots q n (less_pairs q n (summed_pair q n k x first message) c from) w w' → PairInSlots q n (equation_pair q n k c less x first message from) w w'
  when_less e h = rw e h

  pub when_not_less : less ≡ false → PairInSlots q n (summed_pair q n k x first message) w w' → PairInSlots q n (equation_pair q n k c less x first message from) w w'
  when_not_less e h = rw e h
