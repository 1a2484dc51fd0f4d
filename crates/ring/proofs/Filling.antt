-- A slot that is filled coefficient by coefficient: what every loop over a slot holds. Assumes nothing.
use mathlib.Core.Path.{◌≡◌, refl, sym, ap, ap₂, ◌∙◌}
use mathlib.Core.Logic.{◌⊎◌, inl, inr}
use Prim.Native.Nat.{ℕ, ◌+◌, ◌*◌, ◌≤◌, ◌<◌}
use native.Mathlib.Omega.{arith}
use lib.ListN.{length}
use Rattle.codec.specs.Bytes.{Bytes, bytes, number, part, put}
use Rattle.codec.proofs.Laws.{put_none, put_append, part_put_before, part_put_after}
use Rattle.codec.proofs.Numbers.{length_bytes}
use Rattle.ring.specs.Poly.{Poly, modulo}
use Rattle.ring.specs.Slots.{slot, encode}
use Rattle.ring.specs.Internal.{store, Slots}
use Rattle.ring.proofs.Bridge.{encode_none, encode_more, length_encode}

-- scratch w whose slot has the first i coefficients of f
pub filled : Bytes → ℕ → Poly → ℕ → Bytes
filled w at f i = put w at (encode i f)

module _ (w : Bytes) (at : ℕ) (f : Poly) where
  pub filled_none : w ≡ filled w at f 0
  unfolding filled
  filled_none = sym (ap (put w at) (encode_none f) ∙ put_none w at)

  pub filled_all : (n : ℕ) → filled w at f n ≡ put w at (encode n f)
  unfolding filled
  filled_all n = refl

  -- the end of a loop that fills a slot
  pub filled_whole : {d : Bytes} {i n : ℕ} → d ≡ filled w at f i → i ≡ n → d ≡ put w at (encode n f)
  filled_whole {n = n} k e = k ∙ ap (filled w at f) e ∙ filled_all n

  module _ (i : ℕ) where
    fits : at + 8 * i ≤ length w → at + length (encode i f) ≤ length w
    fits h = omega (arith, length_encode i f)

    -- one coefficient more
    pub filled_more : (d e : Bytes) (v : ℕ) → d ≡ filled w at f i → at + 8 * (i + 1) ≤ length w → v ≡ f i → e ≡ put d (at + 8 * i) (bytes 8 v) → e ≡ filled w at f (i + 1)
    unfolding filled
    filled_more d e v k h p r =
        r ∙ ap₂ (λ (x : Bytes) (y : ℕ). put x (at + 8 * i) (bytes 8 y)) k p
        ∙ ap (λ (n : ℕ). put (put w at (encode i f)) (at + n) (bytes 8 (f i))) (sym (length_encode i f))
        ∙ put_append w at (encode i f) (bytes 8 (f i)) (omega (arith, length_encode i f, length_bytes 8 (f i)))
        ∙ ap (put w at) (sym (encode_more i f))

    -- what stands behind is still there, and what stands before the slot
    filled_ahead : (d : Bytes) (from : ℕ) → d ≡ filled w at f i → at + 8 * i ≤ length w → at + 8 * i ≤ from → part d from 8 ≡ part w from 8
    unfolding filled
    filled_ahead d from k h l = ap (λ (x : Bytes). part x from 8) k ∙ part_put_after w at (encode i f) from 8 (fits h) (omega (arith, length_encode i f))

    filled_behind : (d : Bytes) (from : ℕ) → d ≡ filled w at f i → at + 8 * i ≤ length w → from + 8 ≤ at → part d from 8 ≡ part w from 8
    unfolding filled
    filled_behind d from k h l = ap (λ (x : Bytes). part x from 8) k ∙ part_put_before w at (encode i f) from 8 (fits h) l

    module _ (d : Bytes) (k : d ≡ filled w at f i) (h : at + 8 * i ≤ length w) where
      -- a coefficient behind what is filled, and one of another slot
      pub read_later : (from j : ℕ) → at + 8 * i ≤ from + 8 * j → number (part d (from + 8 * j) 8) ≡ slot w from j
      unfolding slot
      read_later from j l = ap number (filled_ahead d (from + 8 * j) k h l)

      pub read_other : (n from : ℕ) → i < n → Slots n at from w → number (part d (from + 8 * i) 8) ≡ slot w from i
      unfolding slot
      read_other n from l s = ap number (go s.apart)
        where
          go : (from + 8 * n ≤ at) ⊎ (at + 8 * n ≤ from) → part d (from + 8 * i) 8 ≡ part w (from + 8 * i) 8
          go (inl e) = filled_behind d (from + 8 * i) k h (omega arith)
          go (inr e) = filled_ahead d (from + 8 * i) k h (omega arith)

pub filled_stored : (q : ℕ) (w : Bytes) (at : ℕ) (a : Poly) {d : Bytes} {i n : ℕ} → d ≡ filled w at (modulo q a) i → i ≡ n → d ≡ store q n w at a
unfolding store
filled_stored q w at a k e = filled_whole w at (modulo q a) k e

-- what a loop over a slot holds: the first i of n coefficients stand there, and scratch is as long as it was
pub record Filling (w : Bytes) (at : ℕ) (f : Poly) (n : ℕ) (d : Bytes) (i : ℕ) : Type 0 where
  pub within : i ≤ n
  pub sized : length d ≡ length w
  pub is : d ≡ filled w at f i

pub filling_none : {w : Bytes} {at : ℕ} {f : Poly} {n : ℕ} → Filling w at f n w 0
filling_none {w} {at} {f} = record { within = omega arith; sized = refl; is = filled_none w at f }

module _ {w : Bytes} {at : ℕ} {f : Poly} {n : ℕ} {d : Bytes} {i : ℕ} (s : Filling w at f n d i) where
  pub filling_more : {e : Bytes} {v : ℕ} → i < n → at + 8 * (i + 1) ≤ length w → v ≡ f i → length e ≡ length d → e ≡ put d (at + 8 * i) (bytes 8 v) → Filling w at f n e (i + 1)
  filling_more {e} {v} l h p z r = record { within = omega arith; sized = z ∙ s.sized; is = filled_more w at f i d e v s.is h p r }

  pub filling_all : n ≤ i → d ≡ put w at (encode n f)
  filling_all h = let e : i ≡ n = omega arith in s.is ∙ ap (filled w at f) e ∙ filled_all w at f n

-- the same of coefficients modulo q
pub filling_stored : {w : Bytes} {at n : ℕ} {d : Bytes} {i : ℕ} (q : ℕ) (a : Poly) → Filling w at (modulo q a) n d i → n ≤ i → d ≡ store q n w at a
unfolding store
filling_stored q a s h = filling_all s h
