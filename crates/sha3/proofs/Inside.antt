-- Bytes within one block: the block that has them, and zeros around them. Assumes nothing.
use mathlib.Core.Path.{◌≡◌, refl, sym, ap, ap₂, ◌∙◌}
use mathlib.Core.List.{[], ◌∷◌, ◌++◌, append-nil}
use Prim.Native.Nat.{ℕ, zero, suc, ◌+◌, ◌-◌, ◌%◌, ◌≤◌, ◌<◌}
use native.Mathlib.Nat.{sub-zero}
use native.Mathlib.Omega.{arith}
use lib.ListN.{length, take, drop, length-replicate}
use Rattle.codec.specs.Bytes.{Bytes, Octets, zeros, put}
use Rattle.codec.proofs.Laws.{length_put, octets_zeros, octets_append}
use Rattle.keccak.specs.Keccak.{StateArray}
use Rattle.keccak.proofs.Shape.{Shape}
use Rattle.sha3.specs.Absorb.{xor_byte, absorb}
use Rattle.sha3.specs.Internal.{xor_block}
use Rattle.sha3.proofs.Absorbing.{xor_nothing, feed_early, absorb_zeros}
use Rattle.sha3.proofs.Lanes.{xors}
use Rattle.sha3.proofs.Blocks.{xors_append, block_bytes}

take_zeros : (k n : ℕ) → k ≤ n → take k (zeros n) ≡ zeros k
take_zeros zero n h = refl
take_zeros (suc k) zero h = absurd (omega arith)
take_zeros (suc k) (suc n) h = ap (λ (l : Bytes). 0 ∷ l) (take_zeros k n (omega arith))

drop_zeros : (k n : ℕ) → drop k (zeros n) ≡ zeros (n - k)
drop_zeros zero n = ap zeros (sym (sub-zero n))
drop_zeros (suc k) zero =
    let e : 0 ≡ 0 - suc k = omega arith in ap zeros e
drop_zeros (suc k) (suc n) =
    let e : n - k ≡ suc n - suc k = omega arith in drop_zeros k n ∙ ap zeros e

-- the block
around : (m : Bytes) (at : ℕ) → at + length m ≤ 136 → put (zeros 136) at m ≡ zeros at ++ (m ++ zeros (136 - (at + length m)))
unfolding put
around m at h = ap₂ (λ (a b : Bytes). a ++ (m ++ b)) (take_zeros at 136 (omega arith)) (drop_zeros (at + length m) 136)

-- bytes that are 0 change nothing
xors_zeros : (n : ℕ) (s : StateArray) (i : ℕ) → xors s i (zeros n) ≡ s
unfolding xors
xors_zeros zero s i = refl
xors_zeros (suc n) s i = ap (λ (t : StateArray). xors t (i + 1) (zeros n)) (xor_nothing s i) ∙ xors_zeros n s (i + 1)

-- with no permutation before the block's end
early : (m : Bytes) (s : StateArray) (at : ℕ) → at + length m < 136 → xors s at m ≡ absorb s at m
unfolding absorb xors
early [] s at h = refl
early (b ∷ m) s at h =
    let one : (at + 1) % 136 ≡ at + 1 = omega arith in
    early m (xor_byte s at b) (at + 1) (omega arith)
    ∙ sym (ap₂ (λ (t : StateArray) (k : ℕ). absorb t k m) (feed_early s at b (omega arith)) one)

-- bytes that end before their block: p is the block
pub ends_before : (s : StateArray) (at : ℕ) (m p : Bytes) → Shape s → Octets m → at + length m < 136 → p ≡ put (zeros 136) at m
    → xor_block s p ≡ absorb s at m
ends_before s at m p h o l e =
    let r = zeros (136 - (at + length m)) in
    let q = zeros at ++ (m ++ r) in
    let f : p ≡ q = e ∙ around m at (omega arith) in
    let n : length p ≡ 136 = ap length e ∙ length_put (zeros 136) at m (omega arith) in
    let y : length (zeros at) ≡ at = length-replicate at 0 in
    let z : 0 + length (zeros at) ≡ at = omega arith in
    ap (xor_block s) f
    ∙ sym (block_bytes s q h (octets_append (zeros at) (m ++ r) (octets_zeros at) (octets_append m r o (octets_zeros (136 - (at + length m))))) (ap length (sym f) ∙ n))
    ∙ xors_append (zeros at) (m ++ r) s 0
    ∙ ap₂ (λ (t : StateArray) (k : ℕ). xors t k (m ++ r)) (xors_zeros at s 0) z
    ∙ xors_append m r s at
    ∙ xors_zeros (136 - (at + length m)) (xors s at m) (at + length m)
    ∙ early m s at l

-- bytes that end with their block
pub ends_with : (s : StateArray) (at : ℕ) (m p : Bytes) → at < 136 → at + length m ≡ 136 → p ≡ put (zeros 136) at m → absorb s 0 p ≡ absorb s at m
ends_with s at m p h l e =
    let k : 136 - (at + length m) ≡ 0 = omega arith in
    let r : zeros (136 - (at + length m)) ≡ [] = ap zeros k in
    let f : p ≡ zeros at ++ m = e ∙ around m at (omega arith) ∙ ap (λ (t : Bytes). zeros at ++ t) (ap (λ (t : Bytes). m ++ t) r ∙ append-nil m) in
    ap (absorb s 0) f ∙ absorb_zeros at m s 0 (omega arith) ∙ ap (λ (k : ℕ). absorb s k m) (omega arith)
