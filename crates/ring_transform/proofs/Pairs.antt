-- A loop over the two halves of a row: what scratch holds after j minus-one, each of which writes one number of either half. Assumes nothing.
use mathlib.Core.Path.{◌≡◌, sym, ap, ap₂, ◌∙◌}
use mathlib.Core.List.{◌++◌}
use Prim.Native.Nat.{ℕ, ◌+◌, ◌*◌, ◌≤◌, ◌<◌}
use native.Mathlib.Omega.{arith}
use lib.ListN.{length, take, drop}
use Rattle.codec.specs.Bytes.{Bytes, bytes, words, number, part, put}
use Rattle.codec.specs.Lists.{list}
use Rattle.codec.proofs.Laws.{length_put, put_none, put_append, part_put_before, part_put_after}
use Rattle.codec.proofs.Apart.{put_comm}
use Rattle.codec.proofs.Numbers.{length_bytes, words_append}
use Rattle.ring.specs.Poly.{Poly}
use Rattle.ring.specs.Slots.{slot, encode}
use Rattle.ring.proofs.Bridge.{encode_none, encode_more, length_encode}
use Rattle.ring_transform.specs.Internal.{zip, numbers, plus_twiddled, minus_twiddled, level, back_sum, back_twiddled, united}
use Rattle.ring_transform.proofs.Places.{low_half, high_half, zip_list, numbers_behind}

-- scratch w with the first j numbers of f in the lower half of the row at a place, and those of g in the upper
pub halved : Bytes → (at m : ℕ) (f g : Poly) (j : ℕ) → Bytes
halved w at m f g j = put (put w at (encode j f)) (at + 8 * m) (encode j g)

-- one number more behind a filled part
next : (w : Bytes) (at : ℕ) (f : Poly) (j v : ℕ) → v ≡ f j → at + 8 * (j + 1) ≤ length w → put (put w at (encode j f)) (at + 8 * j) (bytes 8 v) ≡ put w at (encode (j + 1) f)
next w at f j v e h =
    ap₂ (λ (k x : ℕ). put (put w at (encode j f)) (at + k) (bytes 8 x)) (sym (length_encode j f)) e
    ∙ put_append w at (encode j f) (bytes 8 (f j)) (omega (arith, length_encode j f, length_bytes 8 (f j))) ∙ ap (put w at) (sym (encode_more j f))

pub record Halves (w : Bytes) (at m : ℕ) (f g : Poly) (d : Bytes) (j : ℕ) : Type 0 where
  pub is : d ≡ halved w at m f g j

pub halves_none : {w : Bytes} {at m : ℕ} {f g : Poly} → Halves w at m f g w 0
unfolding halved
halves_none {w} {at} {m} {f} {g} = record {
  is = sym (ap₂ (λ (s t : Bytes). put (put w at s) (at + 8 * m) t) (encode_none f) (encode_none g) ∙ put_none (put w at _) (at + 8 * m) ∙ put_none w at);
}

module _ {w : Bytes} {at m : ℕ} {f g : Poly} {d : Bytes} {j : ℕ} (s : Halves w at m f g d j) (fits : at + 8 * (m + m) ≤ length w) (l : j < m) where
  low_length : length (put w at (encode j f)) ≡ length w
  low_length = length_put w at (encode j f) (omega (arith, length_encode j f))

  -- the numbers that the next turn reads
  pub read_low : number (part d (at + 8 * j) 8) ≡ slot w at j
  unfolding slot halved
  read_low =
      ap (λ (t : Bytes). number (part t (at + 8 * j) 8)) s.is
      ∙ ap number (part_put_before (put w at (encode j f)) (at + 8 * m) (encode j g) (at + 8 * j) 8 (omega (arith, low_length, length_encode j g)) (omega arith))
      ∙ ap number (part_put_after w at (encode j f) (at + 8 * j) 8 (omega (arith, length_encode j f)) (omega (arith, length_encode j f)))

  pub read_high : number (part d (at + 8 * (m + j)) 8) ≡ slot w at (m + j)
  unfolding slot halved
  read_high =
      ap (λ (t : Bytes). number (part t (at + 8 * (m + j)) 8)) s.is
      ∙ ap number (part_put_after (put w at (encode j f)) (at + 8 * m) (encode j g) (at + 8 * (m + j)) 8 (omega (arith, low_length, length_encode j g)) (omega (arith, length_encode j g)))
      ∙ ap number (part_put_after w at (encode j f) (at + 8 * (m + j)) 8 (omega (arith, length_encode j f)) (omega (arith, length_encode j f)))

  pub halves_more : {d' d'' : Bytes} {u v : ℕ} → u ≡ f j → v ≡ g j → d' ≡ put d (at + 8 * j) (bytes 8 u) → d'' ≡ put d' (at + 8 * (m + j)) (bytes 8 v)
      → Halves w at m f g d'' (j + 1)
  unfolding halved
  halves_more {d'} {d''} {u} {v} eu ev e' e'' =
      let lower : d' ≡ put (put w at (encode (j + 1) f)) (at + 8 * m) (encode j g) =
      e' ∙ ap (λ (t : Bytes). put t (at + 8 * j) (bytes 8 u)) s.is
      ∙ put_comm (put w at (encode j f)) (at + 8 * m) (encode j g) (at + 8 * j) (bytes 8 u) (omega (arith, length_bytes 8 u)) (omega (arith, low_length, length_encode j g))
      ∙ ap (λ (t : Bytes). put t (at + 8 * m) (encode j g)) (next w at f j u eu (omega arith)) in
      let place : at + 8 * (m + j) ≡ at + 8 * m + 8 * j = omega arith in
      record {
        is =
            e'' ∙ ap₂ (λ (t : Bytes) (k : ℕ). put t k (bytes 8 v)) lower place
            ∙ next (put w at (encode (j + 1) f)) (at + 8 * m) g j v ev (omega (arith, length_put w at (encode (j + 1) f) (omega (arith, length_encode (j + 1) f))));
      }

-- all of them
pub halves_all : {w : Bytes} {at m : ℕ} {f g : Poly} {d : Bytes} {j : ℕ} → Halves w at m f g d j → at + 8 * (m + m) ≤ length w → j ≡ m → d ≡ put w at (words (list m f ++ list m g))
unfolding halved encode
halves_all {w} {at} {m} {f} {g} {d} {j} s fits e =
    s.is ∙ ap (λ (k : ℕ). put (put w at (encode k f)) (at + 8 * m) (encode k g)) e
    ∙ ap (λ (k : ℕ). put (put w at (encode m f)) (at + k) (encode m g)) (sym (length_encode m f))
    ∙ put_append w at (encode m f) (encode m g) (omega (arith, length_encode m f, length_encode m g)) ∙ ap (put w at) (sym (words_append (list m f) (list m g)))

-- ---- a level, and its inverse, by the numbers that stand in scratch

pub level_list : (q z m : ℕ) (w : Bytes) (at : ℕ)
    → level q z m (numbers (m + m) w at) ≡ list m (λ k. plus_twiddled q z (slot w at k) (slot w at (m + k))) ++ list m (λ k. minus_twiddled q z (slot w at k) (slot w at (m + k)))
unfolding level
level_list q z m w at = ap₂ ◌++◌ (one (plus_twiddled q z)) (one (minus_twiddled q z))
  where
    one : (f : ℕ → ℕ → ℕ) → zip f (take m (numbers (m + m) w at)) (drop m (numbers (m + m) w at)) ≡ list m (λ k. f (slot w at k) (slot w at (m + k)))
    one f = ap₂ (zip f) (low_half m m (slot w at)) (high_half m m (slot w at)) ∙ zip_list f m (slot w at) (λ k. slot w at (m + k))

pub united_list : (q y m : ℕ) (w : Bytes) (at : ℕ)
    → united q y (numbers m w at) (numbers m w (at + 8 * m)) ≡ list m (λ k. back_sum q (slot w at k) (slot w at (m + k))) ++ list m (λ k. back_twiddled q y (slot w at k) (slot w at (m + k)))
unfolding united
united_list q y m w at = ap₂ ◌++◌ (one (back_sum q)) (one (back_twiddled q y))
  where
    one : (f : ℕ → ℕ → ℕ) → zip f (numbers m w at) (numbers m w (at + 8 * m)) ≡ list m (λ k. f (slot w at k) (slot w at (m + k)))
    one f = ap (zip f (numbers m w at)) (numbers_behind w at m m) ∙ zip_list f m (slot w at) (λ k. slot w at (m + k))
