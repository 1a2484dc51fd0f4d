-- The one bridge between a polynomial as coefficients and as bytes, and the laws of slots. Assumes nothing.
use mathlib.Core.Path.{◌≡◌, refl, sym, ap, ap₂, ◌∙◌}
use mathlib.Core.Logic.{◌⊎◌, inl, inr}
use mathlib.Core.List.{[], ◌∷◌, ◌++◌, append-nil}
use Prim.Native.Nat.{ℕ, zero, suc, ◌+◌, ◌*◌, ◌%◌, ◌^◌, ◌≤◌, ◌<◌}
use native.Mathlib.Nat.{mod-lt, zero-add}
use native.Mathlib.Numerals.{add-one}
use native.Mathlib.Omega.{arith}
use lib.ListN.{length, take, drop, length-replicate, length-drop}
use lib.Seq.{take_all, take-add, drop_at, take-append-le, drop-append-le, get_or-take, get_or-drop}
use Rattle.codec.specs.Bytes.{Bytes, Octets, bytes, words, number, part, put, zeros}
use Rattle.codec.proofs.Laws.{length_part, part_part, length_put, put_put, part_put, part_put_before, part_put_after, le_or}
use Rattle.codec.proofs.Numbers.{length_bytes, number_bytes, bytes_number, length_words, words_append}
use Rattle.codec.specs.Lists.{list}
use Rattle.codec.proofs.Lists.{length_list, list_cong}
use Rattle.ring.specs.Poly.{Poly, modulo, Alike, Below}
use Rattle.ring.specs.Slots.{poly, slot, encode}
use Rattle.ring.specs.Internal.{store}

-- ---- coefficients and bytes

pub encode_none : (a : Poly) → encode 0 a ≡ []
unfolding encode list words
encode_none a = refl

pub encode_more : (n : ℕ) (a : Poly) → encode (n + 1) a ≡ encode n a ++ bytes 8 (a n)
unfolding encode list words
encode_more n a = rw (add-one n) (words_append (list n a) (a n ∷ []) ∙ ap (λ (t : Bytes). words (list n a) ++ t) (append-nil (bytes 8 (a n))))

pub length_encode : (n : ℕ) (a : Poly) → length (encode n a) ≡ 8 * n
unfolding encode
length_encode n a = length_words (list n a) ∙ ap (λ (k : ℕ). 8 * k) (length_list n a)

pub encode_cong : (n : ℕ) {a b : Poly} → ((k : ℕ) → k < n → a k ≡ b k) → encode n a ≡ encode n b
unfolding encode
encode_cong n h = ap words (list_cong n h)

-- polynomials that are alike modulo q have the same bytes modulo q
pub encode_alike : {q n : ℕ} {a b : Poly} → Alike q n a b → encode n (modulo q a) ≡ encode n (modulo q b)
unfolding modulo
encode_alike {q} {n} e = encode_cong n (λ k l. (e.at k l).is)

-- a part of the first of two byte strings
part_left : (s t : Bytes) (at n : ℕ) → at + n ≤ length s → part (s ++ t) at n ≡ part s at n
part_left s t at n h = rw (drop-append-le at s t (omega arith)) (take-append-le n (drop at s) t (simp length-drop (omega arith)))

-- the 8 bytes of a coefficient
pub part_encode : (n : ℕ) (a : Poly) (k : ℕ) → k < n → part (encode n a) (8 * k) 8 ≡ bytes 8 (a k)
part_encode zero a k h = absurd (omega arith)
part_encode (suc n) a k h = rw (← add-one n, encode_more n a) (go (λ l. part_encode n a k l) (le_or n k))
  where
    go : (k < n → part (encode n a) (8 * k) 8 ≡ bytes 8 (a k)) → (n ≤ k) ⊎ (k < n) → part (encode n a ++ bytes 8 (a n)) (8 * k) 8 ≡ bytes 8 (a k)
    go r (inl e) =
        ap (take 8) (drop_at (encode n a) (bytes 8 (a n)) (8 * k) (omega (arith, length_encode n a)))
        ∙ take_all 8 (bytes 8 (a n)) (omega (arith, length_bytes 8 (a n))) ∙ ap (λ (j : ℕ). bytes 8 (a j)) (omega arith)
    go r (inr l) = part_left (encode n a) (bytes 8 (a n)) (8 * k) 8 (omega (arith, length_encode n a)) ∙ r l

-- written as bytes, then read
pub poly_encode : (n : ℕ) (a : Poly) (k : ℕ) → k < n → a k < 2 ^ 64 → poly (encode n a) k ≡ a k
unfolding poly
poly_encode n a k h l = ap number (part_encode n a k h) ∙ number_bytes 8 (a k) l

-- read, then written as bytes
last_encode : (s : Bytes) (n : ℕ) → Octets s → 8 * (n + 1) ≤ length s → bytes 8 (poly s n) ≡ part s (8 * n) 8
unfolding poly
last_encode s n o h = ap (λ (k : ℕ). bytes k (number (part s (8 * n) 8))) (sym l) ∙ bytes_number (part s (8 * n) 8) octets
  where
    l : length (part s (8 * n) 8) ≡ 8
    l = length_part s (8 * n) 8 (omega arith)

    octets : Octets (part s (8 * n) 8)
    octets i k = rw (get_or-take 8 (drop (8 * n) s) i 0 (omega (arith, l)), get_or-drop (8 * n) s i 0) (o (8 * n + i) (omega (arith, l)))

encode_take : (s : Bytes) (n : ℕ) → Octets s → 8 * n ≤ length s → encode n (poly s) ≡ take (8 * n) s
encode_take s zero o h = encode_none (poly s)
encode_take s (suc n) o h =
    rw (← add-one n, encode_more n (poly s))
    (ap₂ (λ (t u : Bytes). t ++ u) (encode_take s n o (omega arith)) (last_encode s n o (omega arith)) ∙ sym (take-add (8 * n) 8 s)
    ∙ (let e : 8 * n + 8 ≡ 8 * (n + 1) = omega arith in ap (λ (k : ℕ). take k s) e))

pub encode_poly : (s : Bytes) (n : ℕ) → Octets s → length s ≡ 8 * n → encode n (poly s) ≡ s
encode_poly s n o h = encode_take s n o (omega arith) ∙ take_all (8 * n) s (omega arith)

-- ---- slots

-- the polynomial of a part is what stands in the slot there
pub poly_part : (w : Bytes) (at n k : ℕ) → k < n → poly (part w at (8 * n)) k ≡ slot w at k
unfolding poly slot
poly_part w at n k h = ap number (part_part w at (8 * n) (8 * k) 8 (omega arith))

pub slot_poly : (s : Bytes) (k : ℕ) → slot s 0 k ≡ poly s k
unfolding poly slot
slot_poly s k = ap (λ (j : ℕ). number (part s j 8)) (zero-add (8 * k))

-- a slot further on
pub slot_later : (w : Bytes) (at m k : ℕ) → slot w (at + 8 * m) k ≡ slot w at (m + k)
unfolding slot
slot_later w at m k = let e : at + 8 * m + 8 * k ≡ at + 8 * (m + k) = omega arith in ap (λ (j : ℕ). number (part w j 8)) e

-- loaded, then read: load is `codec::copy`
pub slot_put : (w : Bytes) (at : ℕ) (s : Bytes) (k : ℕ) → at + length s ≤ length w → 8 * k + 8 ≤ length s → slot (put w at s) at k ≡ poly s k
unfolding slot poly
slot_put w at s k h l =
    ap number
    (sym (part_part (put w at s) at (length s) (8 * k) 8 (omega arith)) ∙ ap (λ (t : Bytes). part t (8 * k) 8) (part_put w at s h))

-- a write before or behind it leaves a slot's coefficient as it was
pub slot_put_before : (w : Bytes) (at : ℕ) (s : Bytes) (from k : ℕ) → at + length s ≤ length w → from + 8 * k + 8 ≤ at → slot (put w at s) from k ≡ slot w from k
unfolding slot
slot_put_before w at s from k h l = ap number (part_put_before w at s (from + 8 * k) 8 h l)

pub slot_put_after : (w : Bytes) (at : ℕ) (s : Bytes) (from k : ℕ) → at + length s ≤ length w → at + length s ≤ from + 8 * k → slot (put w at s) from k ≡ slot w from k
unfolding slot
slot_put_after w at s from k h l = ap number (part_put_after w at s (from + 8 * k) 8 h l)

module _ (q n : ℕ) (w : Bytes) (at : ℕ) (a : Poly) (h : at + 8 * n ≤ length w) where
  fits : at + length (encode n (modulo q a)) ≤ length w
  fits = omega (arith, length_encode n (modulo q a))

  pub length_store : length (store q n w at a) ≡ length w
  unfolding store
  length_store = length_put w at (encode n (modulo q a)) fits

  -- stored, then read
  pub slot_store : 0 < q → q ≤ 2 ^ 64 → (k : ℕ) → k < n → slot (store q n w at a) at k ≡ a k % q
  unfolding store
  slot_store p b k l =
      slot_put w at (encode n (modulo q a)) k fits (omega (arith, length_encode n (modulo q a)))
      ∙ poly_encode n (modulo q a) k l (unfold modulo in omega (arith, mod-lt (a k) {m = q} p)) ∙ (unfold modulo in refl)

  pub below_store : 0 < q → q ≤ 2 ^ 64 → Below q n (slot (store q n w at a) at)
  below_store p b = record { at = λ k l. rw (slot_store p b k l) (mod-lt (a k) p) }

  pub alike_store : 0 < q → q ≤ 2 ^ 64 → Alike q n (slot (store q n w at a) at) a
  alike_store p b = record { at = λ k l. record { is = ap (λ (x : ℕ). x % q) (slot_store p b k l) ∙ native.Mathlib.Nat.mod-mod (a k) q } }

-- alike polynomials are stored alike
pub store_alike : {q n : ℕ} (w : Bytes) (at : ℕ) {a b : Poly} → Alike q n a b → store q n w at a ≡ store q n w at b
unfolding store
store_alike w at e = ap (put w at) (encode_alike e)

-- a later polynomial in the same slot counts
pub store_store : (q n : ℕ) (w : Bytes) (at : ℕ) (a b : Poly) → at + 8 * n ≤ length w → store q n (store q n w at a) at b ≡ store q n w at b
unfolding store
store_store q n w at a b h =
    put_put w at (encode n (modulo q a)) (encode n (modulo q b)) (omega (arith, length_encode n (modulo q a))) (length_encode n (modulo q b) ∙ sym (length_encode n (modulo q a)))

-- what `multiply` leaves: the product in its slot, and the room behind it zero
module _ (q n : ℕ) (w : Bytes) (at room : ℕ) (a : Poly) (before : at + 8 * n ≤ room) (fits : room + 24 * n ≤ length w) where
  abbrev pub after_multiply : Bytes
  after_multiply = put (store q n w at a) room (zeros (24 * n))

  in_store : room + length (zeros (24 * n)) ≤ length (store q n w at a)
  in_store = omega (arith, length_store q n w at a (omega arith), length-replicate {A = ℕ} (24 * n) 0)

  pub length_multiplied : length after_multiply ≡ length w
  length_multiplied = length_put (store q n w at a) room (zeros (24 * n)) in_store ∙ length_store q n w at a (omega arith)

  pub slot_multiplied : 0 < q → q ≤ 2 ^ 64 → (k : ℕ) → k < n → slot after_multiply at k ≡ a k % q
  slot_multiplied p b k l = slot_put_before (store q n w at a) room (zeros (24 * n)) at k in_store (omega arith) ∙ slot_store q n w at a (omega arith) p b k l

  -- another slot before the room is as it was
  pub slot_beside : (from k : ℕ) → from + 8 * k + 8 ≤ room → (from + 8 * k + 8 ≤ at) ⊎ (at + 8 * n ≤ from + 8 * k) → slot after_multiply from k ≡ slot w from k
  unfolding store
  slot_beside from k l side = slot_put_before (store q n w at a) room (zeros (24 * n)) from k in_store l ∙ go side
    where
      go : (from + 8 * k + 8 ≤ at) ⊎ (at + 8 * n ≤ from + 8 * k) → slot (store q n w at a) from k ≡ slot w from k
      go (inl h) = slot_put_before w at (encode n (modulo q a)) from k (omega (arith, length_encode n (modulo q a))) h
      go (inr h) = slot_put_after w at (encode n (modulo q a)) from k (omega (arith, length_encode n (modulo q a))) (omega (arith, length_encode n (modulo q a)))
