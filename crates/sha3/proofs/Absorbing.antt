-- The laws of absorbing: parts that are absorbed one after another are absorbed as their concatenation, and zeros change
-- nothing before a block's end. Assumes nothing.
use mathlib.Core.Path.{◌≡◌, refl, sym, ap, ◌∙◌}
use Prim.Native.Nat.{ℕ, zero, suc, ◌+◌, ◌-◌, ◌*◌, ◌/◌, ◌%◌, ◌^◌, ◌≤◌, ◌<◌}
use mathlib.Core.List.{List, [], ◌∷◌, ◌++◌}
use native.Mathlib.Omega.{arith}
use native.Mathlib.Nat.{zero-mul, sub-zero}
use lib.ListN.{length, get_or, set, replicate, take, drop, length-drop, take-append-drop}
use lib.Seq.{set-get_or, take_all, take-take, length-take-le}
use lib.Bits.{bit_xor, xor_zero_r}
use borrow.Author.Tests.{lt-ltb, le-ltb}
use Rattle.keccak.specs.Keccak.{StateArray, Row, lane, keccak}
use Rattle.codec.proofs.Laws.{drop_take}
use Rattle.sha3.specs.Absorb.{xor_lane, xor_byte, feed, absorb}

-- ---- absorbing

pub absorb_append : (a b : List ℕ) (s : StateArray) (at : ℕ) → at < 136
    → absorb s at (a ++ b) ≡ absorb (absorb s at a) ((at + length a) % 136) b
unfolding absorb
absorb_append [] b s at h =
    let e : at ≡ (at + 0) % 136 = omega arith in ap (λ (k : ℕ). absorb s k b) e
absorb_append (x ∷ a) b s at h =
    let e : ((at + 1) % 136 + length a) % 136 ≡ (at + suc (length a)) % 136 = omega arith in
    absorb_append a b (feed s at x) ((at + 1) % 136) (omega arith)
    ∙ ap (λ (k : ℕ). absorb (absorb (feed s at x) ((at + 1) % 136) a) k b) e

-- a byte that is 0 changes nothing
put_nothing : (l k : ℕ) → xor_lane l k 0 ≡ l
unfolding xor_lane
put_nothing l k = ap (bit_xor l) (zero-mul (2 ^ (k * 8))) ∙ xor_zero_r l

pub xor_nothing : (s : StateArray) (i : ℕ) → xor_byte s i 0 ≡ s
unfolding xor_byte
xor_nothing s i =
    ap (λ (v : ℕ). set s (i / 40) (set (get_or s (i / 40) []) (i / 8 % 5) v)) (put_nothing (lane s (i / 8 % 5) (i / 40)) (i % 8))
    ∙ ap (λ (r : Row). set s (i / 40) r) (set-get_or (get_or s (i / 40) []) (i / 8 % 5) 0)
    ∙ set-get_or s (i / 40) []

pub feed_early : (s : StateArray) (at b : ℕ) → at < 135 → feed s at b ≡ xor_byte s at b
unfolding feed
feed_early s at b h = simp (lt-ltb _ _ h)

pub feed_late : (s : StateArray) (at b : ℕ) → 135 ≤ at → feed s at b ≡ keccak (xor_byte s at b)
unfolding feed
feed_late s at b h = simp (le-ltb _ _ h)

pub absorb_zeros : (n : ℕ) (l : List ℕ) (s : StateArray) (at : ℕ) → at + n < 136 → absorb s at (replicate n 0 ++ l) ≡ absorb s (at + n) l
unfolding absorb
absorb_zeros zero l s at h =
    let e : at ≡ at + 0 = omega arith in ap (λ (k : ℕ). absorb s k l) e
absorb_zeros (suc n) l s at h =
    let early : at < 135 = omega arith in
    let one : (at + 1) % 136 ≡ at + 1 = omega arith in
    let e : (at + 1) + n ≡ at + suc n = omega arith in
    let f : feed s at 0 ≡ s = feed_early s at 0 early ∙ xor_nothing s at in
    (λ i. absorb (f i) (one i) (replicate n 0 ++ l))
    ∙ absorb_zeros n l s (at + 1) (omega arith)
    ∙ ap (λ (k : ℕ). absorb s k l) e

-- a block of zeros is the permutation
pub zero_block : (s : StateArray) → absorb s 0 (replicate 136 0) ≡ keccak s
unfolding absorb
zero_block s = absorb_zeros 135 (0 ∷ []) s 0 (omega arith) ∙ feed_late s 135 0 (omega arith) ∙ ap keccak (xor_nothing s 135)

-- nothing is absorbed
pub absorb_none : (m : List ℕ) (s : StateArray) (at : ℕ) → length m ≡ 0 → s ≡ absorb s at m
unfolding absorb
absorb_none [] s at h = refl
absorb_none (b ∷ m) s at h = absurd (omega arith)

-- what is absorbed up to k is absorbed, and then the rest
pub split_at : (m : List ℕ) (k : ℕ) (s : StateArray) (at p : ℕ) → at < 136 → k ≤ length m → (at + k) % 136 ≡ p
    → absorb (absorb s at (take k m)) p (drop k m) ≡ absorb s at m
split_at m k s at p h hk e =
    let n : length (take k m) ≡ k = length-take-le k m hk in
    let q : p ≡ (at + length (take k m)) % 136 = omega arith in
    ap (λ (j : ℕ). absorb (absorb s at (take k m)) j (drop k m)) q
    ∙ sym (absorb_append (take k m) (drop k m) s at h)
    ∙ ap (absorb s at) (take-append-drop k m)

-- a head to a block's end, whole blocks, and what is left: each part as `&m[a..e]` gives it
pub thirds : (m : List ℕ) (s : StateArray) (at h e : ℕ) → at < 136 → (at + h) % 136 ≡ 0 → h ≤ e → (e - h) % 136 ≡ 0 → e ≤ length m
    → absorb (absorb (absorb s at (take (h - 0) (drop 0 m))) 0 (take (e - h) (drop h m))) 0 (take (length m - e) (drop e m)) ≡ absorb s at m
thirds m s at h e hat z he z' hm =
    let a : take (h - 0) m ≡ take h (take e m) = ap (λ (k : ℕ). take k m) (sub-zero h) ∙ sym (take-take h e m he) in
    let w : h + (e - h) ≡ e = omega arith in
    let b : take (e - h) (drop h m) ≡ drop h (take e m) = sym (ap (λ (k : ℕ). drop h (take k m)) (sym w) ∙ drop_take h (e - h) m) in
    let l : length (take e m) ≡ e = length-take-le e m hm in
    let c : take (length m - e) (drop e m) ≡ drop e m = take_all (length m - e) (drop e m) (rw (length-drop e m) (omega arith)) in
    (λ i. absorb (absorb (absorb s at (a i)) 0 (b i)) 0 (c i))
    ∙ ap (λ (t : StateArray). absorb t 0 (drop e m)) (split_at (take e m) h s at 0 hat (omega arith) z)
    ∙ split_at m e s at 0 hat hm (omega arith)
