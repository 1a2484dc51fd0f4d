-- Byte strings that are written end to end, and parts that are lent with a length that is a difference of places. Assumes nothing.
use mathlib.Core.Path.{◌≡◌, refl, sym, ap, ◌∙◌}
use mathlib.Core.List.{◌++◌}
use Prim.Native.Nat.{ℕ, ◌+◌, ◌≤◌}
use native.Mathlib.Numerals.{add-one}
use native.Mathlib.Omega.{arith}
use lib.ListN.{length, take, drop, length-append}
use Rattle.codec.specs.Bytes.{Bytes, part, put}
use Rattle.codec.proofs.Laws.{put_none, put_whole, written_behind}
use Rattle.round.specs.Layout.{joined}

pub cut : (s : Bytes) (at m n : ℕ) → m ≡ n → take m (drop at s) ≡ part s at n
cut s at m n e = ap (λ (k : ℕ). take k (drop at s)) e

-- two strings over the whole of an output
pub two_whole : (d d1 d2 s t : Bytes) (at : ℕ) → at ≡ length s → length d ≡ length s + length t → d1 ≡ put d 0 s → d2 ≡ put d1 at t → d2 ≡ s ++ t
two_whole d d1 d2 s t at l whole e1 e2 = written_behind d d1 d2 s t 0 at (omega arith) (omega arith) e1 e2 ∙ put_whole d (s ++ t) (length-append s t ∙ sym whole)

-- the strings f 0, f 1, .. are written over d from a place on: the first i of them stand there, and the next one's place is `at`
module _ (f : ℕ → Bytes) (d : Bytes) (from : ℕ) where
  pub record Filled (i at : ℕ) (d' : Bytes) : Type 0 where
    pub place : at ≡ from + length (joined i f)
    pub long : length d' ≡ length d
    pub is : d' ≡ put d from (joined i f)

  pub filled_first : Filled 0 from d
  unfolding joined
  filled_first = record { place = omega arith; long = refl; is = sym (put_none d from) }

  pub filled_more : (i at size : ℕ) (d1 d2 : Bytes) → Filled i at d1 → length (f i) ≡ size → at + size ≤ length d → length d2 ≡ length d1 → d2 ≡ put d1 at (f i) → Filled (i + 1) (at + size) d2
  unfolding joined
  filled_more i at size d1 d2 h sized fits l e = record {
    place = rw (add-one i, length-append (joined i f) (f i)) (omega (arith, h.place));
    long = l ∙ h.long;
    is = rw (add-one i) (written_behind d d1 d2 (joined i f) (f i) from at h.place (omega arith) h.is e);
  }

-- over the whole of an output
pub filled_all : (f : ℕ → Bytes) (d d' : Bytes) (i at n : ℕ) → Filled f d 0 i at d' → i ≡ n → length (joined n f) ≡ length d → d' ≡ joined n f
filled_all f d d' i at n h e l = h.is ∙ ap (λ (j : ℕ). put d 0 (joined j f)) e ∙ put_whole d (joined n f) l
