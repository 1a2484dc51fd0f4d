-- Scratch as a row of slots of 16,384 bytes, from 0 on, that hold polynomials: what each step of the work does to the list of what they hold. Assumes nothing.
use mathlib.Core.Path.{◌≡◌, refl, sym, ap, ◌∙◌}
use mathlib.Core.Logic.{◌⊎◌, inl, inr, ◌≢◌}
use mathlib.Core.List.{List, [], ◌∷◌}
use Prim.Native.Nat.{ℕ, zero, suc, ◌+◌, ◌*◌, ◌%◌, ◌^◌, ◌≤◌, ◌<◌}
use native.Mathlib.Nat.{mod-lt, mod-eq_of_lt, mod-mod}
use native.Mathlib.Decide.{ℕ_discrete}
use native.Mathlib.Omega.{arith}
use lib.ListN.{length, get_or, length-replicate}
use Rattle.codec.specs.Bytes.{Bytes, Octets, part, put, zeros}
use Rattle.codec.proofs.Laws.{length_put, length_part, part_put, put_part, part_put_before, part_put_after, octets_part}
use Rattle.ring.specs.Poly.{Poly, plus, mul, modulo, zero_poly, Alike, Below}
use Rattle.ring.specs.Slots.{poly, slot, encode}
use Rattle.ring.specs.Internal.{store, Slots}
use Rattle.ring.proofs.Bridge.{length_encode, poly_encode, encode_cong, encode_alike, encode_poly, poly_part}
use Rattle.ring.proofs.Polynomials.{alike_plus, alike_mul}

-- the polynomials fs modulo q stand in the first slots, in bytes
pub record Slotted (q n : ℕ) (fs : List Poly) (w : Bytes) : Type 0 where
  pub long : length w ≡ 1048576
  pub stands : (j : ℕ) → j < length fs → part w (16384 * j) (8 * n) ≡ encode n (modulo q (get_or fs j zero_poly))

-- a list with f in the place of its entry j, or behind its last
abbrev pub place : List Poly → ℕ → Poly → List Poly
place [] j f = f ∷ []
place (g ∷ fs) zero f = f ∷ fs
place (g ∷ fs) (suc j) f = g ∷ place fs j f

place_there : (fs : List Poly) (j : ℕ) (f : Poly) → j ≤ length fs → get_or (place fs j f) j zero_poly ≡ f
place_there [] zero f h = refl
place_there [] (suc j) f h = absurd (omega arith)
place_there (g ∷ fs) zero f h = refl
place_there (g ∷ fs) (suc j) f h = place_there fs j f (omega arith)

place_other : (fs : List Poly) (j : ℕ) (f : Poly) → j ≤ length fs → (i : ℕ) → i ≢ j → i < length (place fs j f) → (i < length fs) × (get_or (place fs j f) i zero_poly ≡ get_or fs i zero_poly)
place_other [] zero f h i d l = absurd (d (omega arith))
place_other [] (suc j) f h i d l = absurd (omega arith)
place_other (g ∷ fs) zero f h zero d l = absurd (d refl)
place_other (g ∷ fs) zero f h (suc i) d l = (omega arith, refl)
place_other (g ∷ fs) (suc j) f h zero d l = (omega arith, refl)
place_other (g ∷ fs) (suc j) f h (suc i) d l = let r = place_other fs j f (omega arith) i (λ e. d (ap suc e)) (omega arith) in (omega (arith, r.0), r.1)

pub place_length : (fs : List Poly) (j : ℕ) (f : Poly) → j < length fs → length (place fs j f) ≡ length fs
place_length [] j f h = absurd (omega arith)
place_length (g ∷ fs) zero f h = refl
place_length (g ∷ fs) (suc j) f h = ap suc (place_length fs j f (omega arith))

module _ (q n : ℕ) (high : n ≤ 2048) (positive : 0 < q) (few : q < 2 ^ 56) where
  -- ---- what the slots hold, as numbers

  -- the bytes of a polynomial modulo q, at any place
  module _ (w : Bytes) (at : ℕ) (f : Poly) (e : part w at (8 * n) ≡ encode n (modulo q f)) where
    encoded_reads : (k : ℕ) → k < n → slot w at k ≡ f k % q
    encoded_reads k l =
        sym (poly_part w at n k l) ∙ ap (λ (x : Bytes). poly x k) e
        ∙ poly_encode n (modulo q f) k l (unfold modulo in omega (arith, mod-lt (f k) {m = q} positive)) ∙ (unfold modulo in refl)

    pub encoded_below : Below q n (slot w at)
    encoded_below = record { at = λ k l. rw (encoded_reads k l) (mod-lt (f k) positive) }

    pub encoded_alike : Alike q n (slot w at) f
    encoded_alike = record { at = λ k l. record { is = ap (λ (x : ℕ). x % q) (encoded_reads k l) ∙ mod-mod (f k) q } }

  module _ {fs : List Poly} {w : Bytes} (s : Slotted q n fs w) (j : ℕ) (h : j < length fs) where
    reads : (k : ℕ) → k < n → slot w (16384 * j) k ≡ get_or fs j zero_poly k % q
    reads = encoded_reads w (16384 * j) (get_or fs j zero_poly) (s.stands j h)

    pub slotted_below : Below q n (slot w (16384 * j))
    slotted_below = encoded_below w (16384 * j) (get_or fs j zero_poly) (s.stands j h)

    pub slotted_alike : Alike q n (slot w (16384 * j)) (get_or fs j zero_poly)
    slotted_alike = encoded_alike w (16384 * j) (get_or fs j zero_poly) (s.stands j h)

  -- two slots do not meet
  pub slotted_slots : {fs : List Poly} {w : Bytes} → Slotted q n fs w → (j i : ℕ) → j < 64 → i < 64 → (i < j) ⊎ (j < i) → Slots n (16384 * j) (16384 * i) w
  slotted_slots s j i g h (inl l) = let e = s.long in record { one = omega arith; other = omega arith; apart = inl (omega arith) }
  slotted_slots s j i g h (inr l) = let e = s.long in record { one = omega arith; other = omega arith; apart = inr (omega arith) }

  -- ---- steps

  module _ {fs : List Poly} {w : Bytes} (s : Slotted q n fs w) where
    -- bytes put behind the slots in use
    pub slotted_behind : {w' : Bytes} (at : ℕ) (t : Bytes) → 16384 * length fs ≤ at → at + length t ≤ 1048576 → w' ≡ put w at t → Slotted q n fs w'
    slotted_behind at t l r e =
        let m = s.long in
        record {
          long = ap length e ∙ length_put w at t (omega arith) ∙ m;
          stands = λ j h. ap (λ (x : Bytes). part x (16384 * j) (8 * n)) e ∙ part_put_before w at t (16384 * j) (8 * n) (omega arith) (omega arith) ∙ s.stands j h;
        }

    -- a polynomial put into a slot, or into the next one
    module _ {w' : Bytes} (j : ℕ) (h : j ≤ length fs) (g : j < 64) where
      pub slotted_put : (f : Poly) → w' ≡ put w (16384 * j) (encode n (modulo q f)) → Slotted q n (place fs j f) w'
      slotted_put f e = record { long = ap length e ∙ length_put w (16384 * j) t fits ∙ m; stands = λ i l. ap (λ (x : Bytes). part x (16384 * i) (8 * n)) e ∙ go i l (ℕ_discrete i j) }
        where
          t : Bytes
          t = encode n (modulo q f)

          m : length w ≡ 1048576
          m = s.long

          lt : length t ≡ 8 * n
          lt = length_encode n (modulo q f)

          fits : 16384 * j + length t ≤ length w
          fits = omega (arith, m, lt)

          apart : (i : ℕ) → i ≢ j → part (put w (16384 * j) t) (16384 * i) (8 * n) ≡ part w (16384 * i) (8 * n)
          apart i d = side (native.Mathlib.Decide.dec_lt i j)
            where
              side : Dec (i < j) → part (put w (16384 * j) t) (16384 * i) (8 * n) ≡ part w (16384 * i) (8 * n)
              side (yes l) = part_put_before w (16384 * j) t (16384 * i) (8 * n) fits (omega arith)
              side (no l) = part_put_after w (16384 * j) t (16384 * i) (8 * n) fits (omega (arith, lt))

          go : (i : ℕ) → i < length (place fs j f) → Dec (i ≡ j) → part (put w (16384 * j) t) (16384 * i) (8 * n) ≡ encode n (modulo q (get_or (place fs j f) i zero_poly))
          go i l (yes e) =
              ap (λ (x : ℕ). part (put w (16384 * j) t) (16384 * x) (8 * n)) e ∙ ap (part (put w (16384 * j) t) (16384 * j)) (sym lt) ∙ part_put w (16384 * j) t fits
              ∙ ap (λ (x : Poly). encode n (modulo q x)) (sym (place_there fs j f h) ∙ ap (λ (x : ℕ). get_or (place fs j f) x zero_poly) (sym e))
          go i l (no d) = let r = place_other fs j f h i d l in apart i d ∙ s.stands i r.0 ∙ ap (λ (x : Poly). encode n (modulo q x)) (sym r.1)

      -- what is alike modulo q
      pub slotted_store : (f g : Poly) → Alike q n f g → w' ≡ store q n w (16384 * j) f → Slotted q n (place fs j g) w'
      unfolding store
      slotted_store f g a e = slotted_put g (e ∙ ap (put w (16384 * j)) (encode_alike a))

      -- numbers below q
      pub slotted_load : (f : Poly) → Below q n f → w' ≡ put w (16384 * j) (encode n f) → Slotted q n (place fs j f) w'
      slotted_load f b e = slotted_put f (e ∙ ap (put w (16384 * j)) (encode_cong n (λ k l. unfold modulo in sym (mod-eq_of_lt (b.at k l)))))

      -- the bytes of a lent polynomial
      pub slotted_copy : (t : Bytes) → Octets t → length t ≡ 8 * n → Below q n (poly t) → w' ≡ put w (16384 * j) t → Slotted q n (place fs j (poly t)) w'
      slotted_copy t o l b e = slotted_load (poly t) b (e ∙ ap (put w (16384 * j)) (sym (encode_poly t n o l)))

    -- a slot with what stands in it changed
    module _ {w' : Bytes} (j : ℕ) (h : j < length fs) (g : j < 64) where
      pub slotted_add : (a b : Poly) → Alike q n a b → w' ≡ store q n w (16384 * j) (plus (slot w (16384 * j)) a) → Slotted q n (place fs j (plus (get_or fs j zero_poly) b)) w'
      slotted_add a b x e = slotted_store j (omega arith) g _ _ (alike_plus (slotted_alike s j h) x) e

    -- what stands in one slot copied into another
    pub slotted_copy_slot : {w' : Bytes} (j i : ℕ) → j ≤ length fs → j < 64 → i < length fs → w' ≡ put w (16384 * j) (encode n (slot w (16384 * i))) → Slotted q n (place fs j (get_or fs i zero_poly)) w'
    slotted_copy_slot j i h g l e = slotted_put j h g (get_or fs i zero_poly) (e ∙ ap (put w (16384 * j)) (encode_cong n (λ k m. unfold modulo in reads s i l k m)))

  -- a product, whose room lies behind the slots in use
  pub slotted_multiply : {fs : List Poly} {w w' : Bytes} → Slotted q n fs w → (j : ℕ) → j < length fs → j < 64 → (a b : Poly) (room : ℕ) → Alike q n a b → 16384 * length fs ≤ room
      → room + 24 * n ≤ 1048576 → w' ≡ put (store q n w (16384 * j) (mul q n (slot w (16384 * j)) a)) room (zeros (24 * n))
      → Slotted q n (place fs j (mul q n (get_or fs j zero_poly) b)) w'
  slotted_multiply {fs} s j h g a b room x l r e =
      let t = slotted_store s j (omega arith) g _ _ (alike_mul (slotted_alike s j h) x) refl in
      slotted_behind t room (zeros (24 * n)) (omega (arith, place_length fs j (mul q n (get_or fs j zero_poly) b) h)) (omega (arith, length-replicate {A = ℕ} (24 * n) 0)) e

  -- ---- slots that hold numbers below q when the work begins

  pub slotted_none : {w : Bytes} → length w ≡ 1048576 → Slotted q n [] w
  slotted_none l = record { long = l; stands = λ j h. absurd (omega arith) }

  pub slotted_next : {fs : List Poly} {w : Bytes} → Slotted q n fs w → Octets w → (m : ℕ) → m ≡ length fs → m < 64 → Below q n (slot w (16384 * m)) → Slotted q n (place fs m (slot w (16384 * m))) w
  slotted_next {fs} {w} s o m l g b = slotted_put s m (omega arith) g (slot w (16384 * m)) (sym (put_part w (16384 * m) (8 * n) (omega (arith, s.long))) ∙ ap (put w (16384 * m)) is)
    where
      is : part w (16384 * m) (8 * n) ≡ encode n (modulo q (slot w (16384 * m)))
      is =
          sym (encode_poly (part w (16384 * m) (8 * n)) n (octets_part w (16384 * m) (8 * n) o) (length_part w (16384 * m) (8 * n) (omega (arith, s.long))))
          ∙ encode_cong n (λ k j. poly_part w (16384 * m) n k j ∙ (unfold modulo in sym (mod-eq_of_lt (b.at k j))))
