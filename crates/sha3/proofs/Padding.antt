-- The padding: it is absorbed in two steps, and fills the block. Assumes nothing.
use mathlib.Core.Path.{◌≡◌, ap, ◌∙◌}
use mathlib.Core.List.{[], ◌∷◌, ◌++◌}
use Prim.Native.Nat.{ℕ, suc, ◌+◌, ◌-◌, ◌%◌, ◌≤◌, ◌<◌}
use native.Mathlib.Decide.{dec_lt}
use native.Mathlib.Omega.{arith}
use borrow.Author.Tests.{lt-ltb, le-ltb}
use lib.ListN.{length, replicate, length-append, length-replicate}
use Rattle.codec.specs.Bytes.{Octets, zeros}
use Rattle.codec.proofs.Laws.{octets_one, octets_zeros, octets_append}
use Rattle.keccak.specs.Keccak.{StateArray, keccak}
use Rattle.sha3.specs.Absorb.{xor_byte, feed, absorb}
use Rattle.sha3.proofs.Absorbing.{feed_early, absorb_zeros}
use Rattle.sha3.specs.Sponge.{padding}

pub pad_early : (s : StateArray) (at : ℕ) → at < 135 → absorb s at (padding at) ≡ keccak (xor_byte (xor_byte s at 6) 135 128)
unfolding absorb padding feed
pad_early s at h =
    let one : (at + 1) % 136 ≡ at + 1 = omega arith in
    let e : (at + 1) + (134 - at) ≡ 135 = omega arith in
    let p : padding at ≡ 6 ∷ (replicate (134 - at) 0 ++ (128 ∷ [])) = simp (lt-ltb _ _ h) in
    ap (absorb s at) p
    ∙ (λ i. absorb (feed_early s at 6 h i) (one i) (replicate (134 - at) 0 ++ (128 ∷ [])))
    ∙ absorb_zeros (134 - at) (128 ∷ []) (xor_byte s at 6) (at + 1) (omega arith)
    ∙ ap (λ (k : ℕ). absorb (xor_byte s at 6) k (128 ∷ [])) e

pub pad_late : (s : StateArray) (at : ℕ) → at ≡ 135 → absorb s at (padding at) ≡ keccak (xor_byte s 135 134)
unfolding absorb padding feed
pad_late s at e = ap (λ (k : ℕ). absorb s k (padding k)) e

pad_short : (at : ℕ) → at < 135 → padding at ≡ 0x06 ∷ (zeros (134 - at) ++ (0x80 ∷ []))
unfolding padding
pad_short at h = rw (lt-ltb at 135 h)

pad_one : (at : ℕ) → 135 ≤ at → padding at ≡ 0x86 ∷ []
unfolding padding
pad_one at h = rw (le-ltb at 135 h)

pub length_padding : (at : ℕ) → at < 136 → length (padding at) ≡ 136 - at
length_padding at h = go (dec_lt at 135)
  where
    go : Dec (at < 135) → length (padding at) ≡ 136 - at
    go (yes l) = ap length (pad_short at l) ∙ ap suc (length-append (zeros (134 - at)) (0x80 ∷ []) ∙ ap (λ (n : ℕ). n + 1) (length-replicate (134 - at) 0)) ∙ omega arith
    go (no l) = ap length (pad_one at (omega arith)) ∙ omega arith

pub octets_padding : (at : ℕ) → Octets (padding at)
octets_padding at = go (dec_lt at 135)
  where
    go : Dec (at < 135) → Octets (padding at)
    go (yes l) = rw (pad_short at l) (octets_append (0x06 ∷ []) (zeros (134 - at) ++ (0x80 ∷ [])) (octets_one 0x06 (omega arith))
        (octets_append (zeros (134 - at)) (0x80 ∷ []) (octets_zeros (134 - at)) (octets_one 0x80 (omega arith))))
    go (no l) = rw (pad_one at (omega arith)) (octets_one 0x86 (omega arith))
