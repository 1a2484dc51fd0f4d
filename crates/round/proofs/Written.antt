-- Polynomials modulo q as bytes: where they stand, that what is written is bytes, and that what is written side by side is in range. Assumes nothing.
use mathlib.Core.Path.{◌≡◌, refl, sym, ap, ap₂, ◌∙◌}
use mathlib.Core.Logic.{◌⊎◌, inl, inr}
use mathlib.Core.Bool.{true}
use mathlib.Core.List.{List, [], ◌∷◌, ◌++◌}
use Prim.Native.Nat.{ℕ, zero, suc, ◌+◌, ◌-◌, ◌*◌, ◌/◌, ◌^◌, ◌≤◌, ◌<◌}
use native.Mathlib.Nat.{mod-lt, add_assoc, mul-zero, mul-suc}
use native.Mathlib.Omega.{arith}
use lib.ListN.{length, length-append}
use Rattle.codec.specs.Bytes.{Bytes, Octets, bytes, words, number, part}
use Rattle.codec.proofs.Laws.{le_or, length_part, part_part, octets_append}
use Rattle.codec.proofs.Numbers.{bytes_octets}
use Rattle.codec.specs.Lists.{list, all_below}
use Rattle.ring.specs.Poly.{Poly, modulo, Below}
use Rattle.ring.specs.Slots.{poly, slot, encode}
use Rattle.ring.proofs.Bridge.{length_encode, poly_part, slot_poly}
use Rattle.ring.proofs.Ranges.{below_complete}
use Rattle.vector.specs.Vector.{vector}
use Rattle.vector.proofs.Vectors.{all_below_each, each_all_below, append_each, take_each, drop_each}
use Rattle.commitment.proofs.Opening.{poly_modulo}
use Rattle.stern.proofs.Layouts.{part_first, part_rest}
use Rattle.stern.proofs.Written.{vector_below}
use Rattle.round.specs.Layout.{joined}

-- ---- a polynomial at a place

-- a slot of a part
pub slot_part : (w : Bytes) (at n from k : ℕ) → from + 8 * k + 8 ≤ n → slot (part w at n) from k ≡ slot w (at + from) k
unfolding slot
slot_part w at n from k h = ap number (part_part w at n (from + 8 * k) 8 h ∙ ap (λ (j : ℕ). part w j 8) (sym (add_assoc at from (8 * k))))

-- a slot that begins at coefficient m
pub slot_at : (w : Bytes) (at m k : ℕ) → at ≡ 8 * m → slot w at k ≡ poly w (m + k)
unfolding slot poly
slot_at w at m k e = let f : at + 8 * k ≡ 8 * (m + k) = omega arith in ap (λ (j : ℕ). number (part w j 8)) f

-- a slot of bytes that hold n coefficients below q
pub below_slot : (q n : ℕ) (s : Bytes) (d l at : ℕ) → at ≡ 8 * d → d + l ≤ n → Below q n (poly s) → Below q l (slot s at)
below_slot q n s d l at e h b = record { at = λ k j. rw (slot_at s at d k e) (b.at (d + k) (omega arith)) }

-- ---- what is written is bytes

octets_none : Octets []
octets_none i h = absurd (omega arith)

octets_words : (xs : List ℕ) → Octets (words xs)
unfolding words
octets_words [] = octets_none
octets_words (x ∷ xs) = octets_append (bytes 8 x) (words xs) (bytes_octets 8 x) (octets_words xs)

pub octets_encode : (n : ℕ) (f : Poly) → Octets (encode n f)
unfolding encode
octets_encode n f = octets_words (list n f)

pub octets_joined : (n : ℕ) (f : ℕ → Bytes) → ((j : ℕ) → j < n → Octets (f j)) → Octets (joined n f)
unfolding joined
octets_joined zero f h = octets_none
octets_joined (suc n) f h = octets_append (joined n f) (f n) (octets_joined n f (λ j l. h j (omega arith))) (h n (omega arith))

-- ---- bytes below a bound

pub below_append : (v : ℕ) (s t : List ℕ) → all_below v s ≡ true → all_below v t ≡ true → all_below v (s ++ t) ≡ true
below_append v s t hs ht = each_all_below (append_each (all_below_each v s hs) (all_below_each v t ht))

pub below_joined : (v n : ℕ) (f : ℕ → Bytes) → ((j : ℕ) → j < n → all_below v (f j) ≡ true) → all_below v (joined n f) ≡ true
unfolding joined all_below
below_joined v zero f h = refl
below_joined v (suc n) f h = below_append v (joined n f) (f n) (below_joined v n f (λ j l. h j (omega arith))) (h n (omega arith))

pub below_part : (v : ℕ) (s : Bytes) (at n : ℕ) → at + n ≤ length s → all_below v s ≡ true → all_below v (part s at n) ≡ true
below_part v s at n l h =
    each_all_below (take_each n (length s - at - n) (omega arith) (drop_each at (length s - at) (omega arith) (all_below_each v s h)))

-- ---- n coefficients below q in 8n bytes

pub record Coefficients (q n : ℕ) (s : Bytes) : Type 0 where
  pub sized : length s ≡ 8 * n
  pub below : Below q n (poly s)

-- the first coefficients of two strings
poly_first : (a b : Bytes) (n k : ℕ) → length a ≡ 8 * n → k < n → poly (a ++ b) k ≡ poly a k
poly_first a b n k e l = sym (slot_poly (a ++ b) k) ∙ sym (poly_part (a ++ b) 0 n k l) ∙ ap (λ (s : Bytes). poly s k) (part_first a b (8 * n) e)

-- and those behind them
poly_behind : (a b : Bytes) (n m k : ℕ) → length a ≡ 8 * n → length b ≡ 8 * m → k < m → poly (a ++ b) (n + k) ≡ poly b k
poly_behind a b n m k e f l =
    sym (slot_at (a ++ b) (8 * n) n k refl) ∙ sym (poly_part (a ++ b) (8 * n) m k l) ∙ ap (λ (s : Bytes). poly s k) (part_rest a b (8 * n) (8 * m) e f)

module _ {q : ℕ} where
  pub coefficients_written : (N : ℕ) (f : Poly) → 0 < q → q ≤ 2 ^ 64 → Coefficients q N (encode N (modulo q f))
  coefficients_written N f h fits = record {
    sized = length_encode N (modulo q f);
    below = record { at = λ k l. rw (poly_modulo q N h fits f k l) (mod-lt (f k) h) };
  }

  below_first : {n : ℕ} (a b : Bytes) → Coefficients q n a → Below q n (poly (a ++ b))
  below_first {n} a b c = record { at = λ k l. rw (poly_first a b n k c.sized l) (c.below.at k l) }

  -- the same as a range test of a string that begins with them
  pub ranged_first : {n : ℕ} (l : ℕ) (a b s : Bytes) → Coefficients q n a → n ≡ l → a ++ b ≡ s → all_below q (list l (poly s)) ≡ true
  ranged_first {n} l a b s c e f = ap₂ (λ (i : ℕ) (t : Bytes). all_below q (list i (poly t))) (sym e) (sym f) ∙ below_complete q n (poly (a ++ b)) (below_first a b c)

  pub coefficients_append : {n m : ℕ} (a b : Bytes) → Coefficients q n a → Coefficients q m b → Coefficients q (n + m) (a ++ b)
  coefficients_append {n} {m} a b c d = record {
    sized = let x = c.sized in let y = d.sized in length-append a b ∙ omega arith;
    below = record { at = λ k l. go k l (le_or n k) };
  }
    where
      go : (k : ℕ) → k < n + m → (n ≤ k) ⊎ (k < n) → poly (a ++ b) k < q
      go k l (inl h) =
          let e : poly (a ++ b) (n + (k - n)) ≡ poly b (k - n) = poly_behind a b n m (k - n) c.sized d.sized (omega arith) in
          let f : n + (k - n) ≡ k = omega arith in
          rw (ap (poly (a ++ b)) (sym f) ∙ e) (d.below.at (k - n) (omega arith))
      go k l (inr h) = rw (poly_first a b n k c.sized h) (c.below.at k h)

  pub coefficients_joined : (N n : ℕ) (f : ℕ → Bytes) → ((j : ℕ) → j < n → Coefficients q N (f j)) → Coefficients q (N * n) (joined n f)
  unfolding joined
  coefficients_joined N zero f h = rw (mul-zero N) (record { sized = refl; below = record { at = λ k l. absurd (omega arith) } })
  coefficients_joined N (suc n) f h =
      let e : N * suc n ≡ N * n + N = omega (arith, mul-suc N n) in
      rw e (coefficients_append (joined n f) (f n) (coefficients_joined N n f (λ j l. h j (omega arith))) (h n (omega arith)))

  -- as the range test asks
  pub coefficients_vector : {n : ℕ} {s : Bytes} → Coefficients q n s → all_below q (vector s) ≡ true
  unfolding vector
  coefficients_vector {n} {s} c =
      let l = c.sized in
      let e : length s / 8 ≡ n = omega arith in
      rw e (below_complete q n (poly s) c.below)

  -- a part of numbers below q
  pub coefficients_part : (s : Bytes) (at n : ℕ) → all_below q (vector s) ≡ true → 8 * at + 8 * n ≤ length s → Coefficients q n (part s (8 * at) (8 * n))
  coefficients_part s at n h l = record {
    sized = length_part s (8 * at) (8 * n) l;
    below = record { at = λ k b. rw (poly_part s (8 * at) n k b ∙ slot_at s (8 * at) at k refl) ((vector_below q s h).at (at + k) (omega arith)) };
  }
