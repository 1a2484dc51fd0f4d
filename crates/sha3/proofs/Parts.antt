-- A message that is absorbed in parts: the sponge's state s and place p, and what went in so far, m.
-- Assumes nothing.
use mathlib.Core.Path.{◌≡◌, refl, sym, ap, ap₂, ◌∙◌}
use Prim.Native.Nat.{ℕ, ◌+◌, ◌%◌}
use mathlib.Core.List.{[], ◌++◌}
use native.Mathlib.Omega.{arith}
use lib.ListN.{length, length-append}
use Rattle.keccak.specs.Keccak.{StateArray}
use Rattle.sha3.specs.Absorb.{absorb, zero_state}
use Rattle.sha3.specs.Sponge.{padding, squeeze, sha3}
use Rattle.codec.specs.Bytes.{Bytes}
use Rattle.sha3.proofs.Absorbing.{absorb_append}

pub record Absorbed (s : StateArray) (p : ℕ) (m : Bytes) : Type 0 where
  pub state : s ≡ absorb zero_state 0 m
  pub place : p ≡ length m % 136

pub start : (s : StateArray) → s ≡ zero_state → Absorbed s 0 []
unfolding absorb
start s e = record { state = e; place = refl }

-- t is what a call of `absorb` returns, and q the next place
pub more : (s : StateArray) (p : ℕ) (m b : Bytes) (t : StateArray) (q : ℕ) → Absorbed s p m → t ≡ absorb s p b → q ≡ (p + length b) % 136
    → Absorbed t q (m ++ b)
more s p m b t q h e f =
    let w : p ≡ (0 + length m) % 136 = omega (arith, h.place) in
    let l : length (m ++ b) ≡ length m + length b = length-append m b in
    record {
      state = e ∙ ap₂ (λ (u : StateArray) (k : ℕ). absorb u k b) h.state w ∙ sym (absorb_append m b zero_state 0 (omega arith));
      place = omega (arith, h.place);
    }

-- what `finish` then returns
pub done : (s : StateArray) (p : ℕ) (m : Bytes) → Absorbed s p m → squeeze (absorb s p (padding p)) ≡ sha3 m
unfolding sha3
done s p m h =
    let w : p ≡ (0 + length m) % 136 = omega (arith, h.place) in
    ap squeeze
    (ap₂ (λ (t : StateArray) (k : ℕ). absorb t k (padding p)) h.state w
    ∙ ap (λ (k : ℕ). absorb (absorb zero_state 0 m) ((0 + length m) % 136) (padding k)) h.place
    ∙ sym (absorb_append m (padding (length m % 136)) zero_state 0 (omega arith)))
