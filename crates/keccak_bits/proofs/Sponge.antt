-- SHA3-256 on bytes is SHA3-256 on bits, FIPS 202's sections 4 to 6 as they are written. Assumes nothing.
use mathlib.Core.Path.{◌≡◌, refl, sym, ap, ap₂, ◌∙◌}
use mathlib.Core.List.{List, [], ◌∷◌, ◌++◌, append_assoc}
use Prim.Native.Nat.{ℕ, zero, suc, ◌+◌, ◌-◌, ◌*◌, ◌/◌, ◌%◌, ◌^◌, ◌<◌}
use native.Mathlib.Nat.{zero-div, div-div-eq-div-mul, pow-succ'}
use native.Mathlib.Decide.{dec_lt}
use native.Mathlib.Omega.{arith}
use borrow.Author.Tests.{lt-ltb, le-ltb}
use lib.Bits.{bit_xor, xor_lt}
use lib.ListN.{length, get_or, take, drop, replicate, length-append, length-drop, take-append-drop, get_or-append}
use lib.Seq.{take_at, drop_at, get_or-take, get_or-drop, get_or-append-add, length-take-le}
use Rattle.codec.specs.Bytes.{Bytes, Octets, bytes, number, part, zeros}
use Rattle.codec.specs.Lists.{list}
use Rattle.codec.proofs.Laws.{length_part, part_none, octets_drop, octets_part, octets_append}
use Rattle.codec.proofs.Lists.{list_cong, list_get_d}
use Rattle.codec.proofs.Numbers.{length_bytes, bytes_octets, number_bytes, number_lt}
use Rattle.keccak.specs.Keccak.{StateArray, lane, lanes, bit, keccak}
use Rattle.keccak.proofs.Bits.{bit_xor_lem}
use Rattle.keccak.proofs.Lanes.{Words, at_five, by_row, rounds_words}
use Rattle.sha3.specs.Absorb.{zero_state}
use Rattle.sha3.specs.Internal.{xor_block, absorb_blocks}
use Rattle.sha3.specs.Fips as blocks
use Rattle.sha3.specs.Sponge.{padding, squeeze, sha3}
use Rattle.sha3.proofs.Padding.{length_padding, octets_padding}
use Rattle.sha3.proofs.Fips.{sponge_is_sha3}
use Rattle.keccak_bits.specs.Bits.{Bits, ◌⊕◌, rounds}
use Rattle.keccak_bits.specs.Internal.{view}
use Rattle.keccak_bits.specs.Sponge.{bits_of, pad, array_of, string_of, absorbed, sponge, sha3_256}
use Rattle.keccak_bits.proofs.Lanes.{Agree, chain, rounds_agree, keccak_bits}

-- ---- the bits of bytes

length_bits : (m : Bytes) → length (bits_of m) ≡ 8 * length m
unfolding bits_of
length_bits [] = refl
length_bits (b ∷ m) = omega (arith, length_bits m)

bits_append : (a b : Bytes) → bits_of (a ++ b) ≡ bits_of a ++ bits_of b
unfolding bits_of
bits_append [] b = refl
bits_append (x ∷ a) b = ap (λ (t : List ℕ). bit x 0 ∷ bit x 1 ∷ bit x 2 ∷ bit x 3 ∷ bit x 4 ∷ bit x 5 ∷ bit x 6 ∷ bit x 7 ∷ t) (bits_append a b)

bit_zero : (z : ℕ) → bit 0 z ≡ 0
unfolding bit
bit_zero z = ap (λ (n : ℕ). n % 2) (zero-div (2 ^ z))

-- by bytes
bits_at : (m : Bytes) (i : ℕ) → get_or (bits_of m) i 0 ≡ bit (get_or m (i / 8) 0) (i % 8)
unfolding bits_of
bits_at [] i = sym (bit_zero (i % 8))
bits_at (b ∷ m) zero = refl
bits_at (b ∷ m) (suc zero) = refl
bits_at (b ∷ m) (suc (suc zero)) = refl
bits_at (b ∷ m) (suc (suc (suc zero))) = refl
bits_at (b ∷ m) (suc (suc (suc (suc zero)))) = refl
bits_at (b ∷ m) (suc (suc (suc (suc (suc zero))))) = refl
bits_at (b ∷ m) (suc (suc (suc (suc (suc (suc zero)))))) = refl
bits_at (b ∷ m) (suc (suc (suc (suc (suc (suc (suc zero))))))) = refl
bits_at (b ∷ m) (suc (suc (suc (suc (suc (suc (suc (suc i)))))))) =
    let d : suc (i / 8) ≡ suc (suc (suc (suc (suc (suc (suc (suc i))))))) / 8 = omega arith in
    let r : i % 8 ≡ suc (suc (suc (suc (suc (suc (suc (suc i))))))) % 8 = omega arith in
    bits_at m i ∙ ap₂ (λ (k z : ℕ). bit (get_or (b ∷ m) k 0) z) d r

-- ---- the bits of a number in bytes

bit_half : (v z : ℕ) → bit v (suc z) ≡ bit (v / 2) z
unfolding bit
bit_half v z = ap (λ (k : ℕ). v / k % 2) (pow-succ' 2 z) ∙ ap (λ (k : ℕ). k % 2) (sym (div-div-eq-div-mul v 2 (2 ^ z)))

bit_byte : (v z : ℕ) → bit v (suc (suc (suc (suc (suc (suc (suc (suc z)))))))) ≡ bit (v / 256) z
bit_byte v z =
    let e : v / 2 / 2 / 2 / 2 / 2 / 2 / 2 / 2 ≡ v / 256 = omega arith in
    simp bit_half (ap (λ (k : ℕ). bit k z) e)

-- the lowest byte is below 256
low_bit : (b r k : ℕ) → b < 256 → k < 8 → bit (b + 256 * r) k ≡ bit b k
unfolding bit
low_bit b r zero h l = omega arith
low_bit b r (suc zero) h l = omega arith
low_bit b r (suc (suc zero)) h l = omega arith
low_bit b r (suc (suc (suc zero))) h l = omega arith
low_bit b r (suc (suc (suc (suc zero)))) h l = omega arith
low_bit b r (suc (suc (suc (suc (suc zero))))) h l = omega arith
low_bit b r (suc (suc (suc (suc (suc (suc zero)))))) h l = omega arith
low_bit b r (suc (suc (suc (suc (suc (suc (suc zero))))))) h l = omega arith
low_bit b r (suc (suc (suc (suc (suc (suc (suc (suc k)))))))) h l = absurd (omega arith)

octets_tail : (b : ℕ) (s : Bytes) → Octets (b ∷ s) → Octets s
octets_tail b s o i l = o (suc i) (omega arith)

bit_number : (s : Bytes) → Octets s → (z : ℕ) → bit (number s) z ≡ get_or (bits_of s) z 0
unfolding number bits_of
bit_number [] o z = bit_zero z
bit_number (b ∷ s) o zero = low_bit b (number s) 0 (o 0 (omega arith)) (omega arith)
bit_number (b ∷ s) o (suc zero) = low_bit b (number s) 1 (o 0 (omega arith)) (omega arith)
bit_number (b ∷ s) o (suc (suc zero)) = low_bit b (number s) 2 (o 0 (omega arith)) (omega arith)
bit_number (b ∷ s) o (suc (suc (suc zero))) = low_bit b (number s) 3 (o 0 (omega arith)) (omega arith)
bit_number (b ∷ s) o (suc (suc (suc (suc zero)))) = low_bit b (number s) 4 (o 0 (omega arith)) (omega arith)
bit_number (b ∷ s) o (suc (suc (suc (suc (suc zero))))) = low_bit b (number s) 5 (o 0 (omega arith)) (omega arith)
bit_number (b ∷ s) o (suc (suc (suc (suc (suc (suc zero)))))) = low_bit b (number s) 6 (o 0 (omega arith)) (omega arith)
bit_number (b ∷ s) o (suc (suc (suc (suc (suc (suc (suc zero))))))) = low_bit b (number s) 7 (o 0 (omega arith)) (omega arith)
bit_number (b ∷ s) o (suc (suc (suc (suc (suc (suc (suc (suc z)))))))) =
    let byte : b < 256 = o 0 (omega arith) in
    let e : (b + 256 * number s) / 256 ≡ number s = omega arith in
    bit_byte (b + 256 * number s) z ∙ ap (λ (k : ℕ). bit k z) e ∙ bit_number s (octets_tail b s o) z

-- ---- a block

lane_bits : (p : Bytes) → Octets p → (k z : ℕ) → z < 64 → bit (number (part p (8 * k) 8)) z ≡ get_or (bits_of p) (64 * k + z) 0
lane_bits p o k z h =
    let d : 8 * k + z / 8 ≡ (64 * k + z) / 8 = omega arith in
    let r : z % 8 ≡ (64 * k + z) % 8 = omega arith in
    bit_number (part p (8 * k) 8) (octets_part p (8 * k) 8 o) z
    ∙ bits_at (part p (8 * k) 8) z
    ∙ ap (λ (b : ℕ). bit b (z % 8)) (get_or-take 8 (drop (8 * k) p) (z / 8) 0 (omega arith) ∙ get_or-drop (8 * k) p (z / 8) 0)
    ∙ ap₂ (λ (i j : ℕ). bit (get_or p i 0) j) d r
    ∙ sym (bits_at p (64 * k + z))

lane_lanes : (f : ℕ → ℕ → ℕ) (x y : ℕ) → x < 5 → y < 5 → lane (lanes f) x y ≡ f x y
lane_lanes f x y hx hy = by_row (λ k. f 0 k ∷ f 1 k ∷ f 2 k ∷ f 3 k ∷ f 4 k ∷ []) x y hy ∙ at_five (λ k. f k y) 0 x hx

xor_bits : (s : StateArray) (A : Bits) (p : Bytes) → Agree (view s) A → Octets p → Agree (view (xor_block s p)) (λ x y z. A x y z ⊕ array_of (bits_of p) x y z)
unfolding xor_block
xor_bits s A p e o = record {
  same = λ x y z hx hy hz.
      let k = 5 * y + x in
      ap (λ (l : ℕ). bit l z) (lane_lanes (λ i j. bit_xor (lane s i j) (number (part p (8 * (5 * j + i)) 8))) x y hx hy)
      ∙ bit_xor_lem (lane s x y) (number (part p (8 * k) 8)) z
      ∙ ap₂ (λ (a b : ℕ). a ⊕ b) (e.same x y z hx hy hz) (lane_bits p o k z hz);
}

-- 8 bytes hold a lane, and there are none past the block
lane_lt : (p : Bytes) (k : ℕ) → Octets p → length p ≡ 136 → number (part p (8 * k) 8) < 2 ^ 64
unfolding number
lane_lt p k o e = go (dec_lt k 17)
  where
    go : Dec (k < 17) → number (part p (8 * k) 8) < 2 ^ 64
    go (yes l) =
        let c = part p (8 * k) 8 in
        let n : length c ≡ 8 = length_part p (8 * k) 8 (omega arith) in
        rw n at (number_lt c (octets_part p (8 * k) 8 o))
    go (no l) =
        let z : number (part p (8 * k) 8) ≡ 0 = ap number (part_none p (8 * k) 8 (omega arith)) in
        omega arith

xor_words : (s : StateArray) (p : Bytes) → Words s → Octets p → length p ≡ 136 → Words (xor_block s p)
unfolding xor_block
xor_words s p w o e = record {
  word = λ x y hx hy.
      rw (lane_lanes (λ i j. bit_xor (lane s i j) (number (part p (8 * (5 * j + i)) 8))) x y hx hy) (xor_lt 64 _ _ (w.word x y hx hy) (lane_lt p (5 * y + x) o e));
}

keccak_words : (s : StateArray) → Words s → Words (keccak s)
unfolding keccak
keccak_words s w = rounds_words 24 s w

blocks_words : (n : ℕ) (s : StateArray) (p : Bytes) → Words s → Octets p → length p ≡ 136 * n → Words (absorb_blocks n s p)
unfolding absorb_blocks
blocks_words zero s p w o l = w
blocks_words (suc n) s p w o l =
    let c = take 136 p in
    let rest : length (drop 136 p) ≡ 136 * n = rw length-drop (omega arith) in
    blocks_words n (keccak (xor_block s c)) (drop 136 p) (keccak_words (xor_block s c) (xor_words s c w (octets_part p 0 136 o) (length-take-le 136 p (omega arith)))) (octets_drop p 136 o) rest

blocks_bits : (n : ℕ) (s : StateArray) (A : Bits) (p : Bytes) → Words s → Agree (view s) A → Octets p → length p ≡ 136 * n → Agree (view (absorb_blocks n s p)) (absorbed n A (bits_of p))
unfolding absorb_blocks absorbed
blocks_bits zero s A p w e o l = e
blocks_bits (suc n) s A p w e o l =
    let c = take 136 p in
    let k : length c ≡ 136 = length-take-le 136 p (omega arith) in
    let size : length (bits_of c) ≡ 1088 = omega (arith, length_bits c) in
    let rest : length (drop 136 p) ≡ 136 * n = rw length-drop (omega arith) in
    let bits : bits_of p ≡ bits_of c ++ bits_of (drop 136 p) = ap bits_of (sym (take-append-drop 136 p)) ∙ bits_append c (drop 136 p) in
    let oc = octets_part p 0 136 o in
    let x = xor_block s c in
    let wx = xor_words s c w oc k in
    rw (bits, take_at (bits_of c) (bits_of (drop 136 p)) 1088 size, drop_at (bits_of c) (bits_of (drop 136 p)) 1088 size)
    (blocks_bits n (keccak x) (rounds 24 (λ i j z. A i j z ⊕ array_of (bits_of c) i j z)) (drop 136 p) (keccak_words x wx) (chain (keccak_bits x wx) (rounds_agree 24 (xor_bits s A c e oc)))
    (octets_drop p 136 o) rest)

-- ---- the padding: the suffix 01, then pad10*1

zeros_bits : (k : ℕ) → bits_of (zeros k ++ (0x80 ∷ [])) ≡ replicate (8 * k + 7) 0 ++ (1 ∷ [])
unfolding bits_of bit
zeros_bits zero = refl
zeros_bits (suc k) =
    let e : suc (suc (suc (suc (suc (suc (suc (suc (8 * k + 7)))))))) ≡ 8 * suc k + 7 = omega arith in
    ap (λ (t : List ℕ). zeros 8 ++ t) (zeros_bits k) ∙ ap (λ (n : ℕ). replicate n 0 ++ (1 ∷ [])) e

padding_bits : (at : ℕ) → at < 136 → bits_of (padding at) ≡ 0 ∷ 1 ∷ 1 ∷ (replicate (1084 - 8 * at) 0 ++ (1 ∷ []))
unfolding padding bits_of bit
padding_bits at h = go (dec_lt at 135)
  where
    go : Dec (at < 135) → bits_of (padding at) ≡ 0 ∷ 1 ∷ 1 ∷ (replicate (1084 - 8 * at) 0 ++ (1 ∷ []))
    go (yes l) =
        let e : suc (suc (suc (suc (suc (8 * (134 - at) + 7))))) ≡ 1084 - 8 * at = omega arith in
        rw (lt-ltb at 135 l) (ap (λ (t : List ℕ). 0 ∷ 1 ∷ 1 ∷ (zeros 5 ++ t)) (zeros_bits (134 - at)) ∙ ap (λ (n : ℕ). 0 ∷ 1 ∷ 1 ∷ (replicate n 0 ++ (1 ∷ []))) e)
    go (no l) =
        let e : 4 ≡ 1084 - 8 * at = omega arith in
        rw (le-ltb at 135 (omega arith)) (ap (λ (n : ℕ). 0 ∷ 1 ∷ 1 ∷ (replicate n 0 ++ (1 ∷ []))) e)

padded : (m : Bytes) → (bits_of m ++ (0 ∷ 1 ∷ [])) ++ pad 1088 (length (bits_of m ++ (0 ∷ 1 ∷ []))) ≡ bits_of (m ++ padding (length m % 136))
unfolding pad
padded m =
    let n : length (bits_of m ++ (0 ∷ 1 ∷ [])) ≡ 8 * length m + 2 = length-append (bits_of m) (0 ∷ 1 ∷ []) ∙ omega (arith, length_bits m) in
    let j : (1088 - (length (bits_of m ++ (0 ∷ 1 ∷ [])) + 2) % 1088) % 1088 ≡ 1084 - 8 * (length m % 136) = omega arith in
    append_assoc (bits_of m) (0 ∷ 1 ∷ []) _
    ∙ ap (λ (k : ℕ). bits_of m ++ (0 ∷ 1 ∷ 1 ∷ (replicate k 0 ++ (1 ∷ [])))) j
    ∙ ap (λ (t : List ℕ). bits_of m ++ t) (sym (padding_bits (length m % 136) (omega arith)))
    ∙ sym (bits_append m (padding (length m % 136)))

-- ---- the digest

bytes_bits : (l z : ℕ) → l < 2 ^ 64 → get_or (bits_of (bytes 8 l)) z 0 ≡ bit l z
bytes_bits l z h = sym (bit_number (bytes 8 l) (bytes_octets 8 l) z) ∙ ap (λ (v : ℕ). bit v z) (number_bytes 8 l h)

-- a lane, and what stands behind it
module _ (l : ℕ) (r : Bytes) where
  size : length (bits_of (bytes 8 l)) ≡ 64
  size = omega (arith, length_bits (bytes 8 l), length_bytes 8 l)

  lane_first : (z : ℕ) → l < 2 ^ 64 → z < 64 → get_or (bits_of (bytes 8 l ++ r)) z 0 ≡ bit l z
  lane_first z h k = rw (bits_append (bytes 8 l) r) (get_or-append (bits_of (bytes 8 l)) (bits_of r) 0 z (omega (arith, size)) ∙ bytes_bits l z h)

  lane_behind : (i : ℕ) → get_or (bits_of (bytes 8 l ++ r)) (64 + i) 0 ≡ get_or (bits_of r) i 0
  lane_behind i =
      let e : 64 + i ≡ length (bits_of (bytes 8 l)) + i = omega (arith, size) in
      rw (bits_append (bytes 8 l) r, e) (get_or-append-add (bits_of (bytes 8 l)) (bits_of r) i 0)

squeezed_at : (s : StateArray) → Words s → (x z : ℕ) → x < 4 → z < 64 → get_or (bits_of (squeeze s)) (64 * x + z) 0 ≡ view s x 0 z
unfolding squeeze
squeezed_at s w zero z hx hz =
    let e : 64 * 0 + z ≡ z = omega arith in
    rw e (lane_first (lane s 0 0) _ z (w.word 0 0 (omega arith) (omega arith)) hz)
squeezed_at s w (suc zero) z hx hz =
    let e : 64 * 1 + z ≡ 64 + z = omega arith in
    rw e (lane_behind (lane s 0 0) _ z ∙ lane_first (lane s 1 0) _ z (w.word 1 0 (omega arith) (omega arith)) hz)
squeezed_at s w (suc (suc zero)) z hx hz =
    let e : 64 * 2 + z ≡ 64 + (64 + z) = omega arith in
    rw e (lane_behind (lane s 0 0) _ (64 + z) ∙ lane_behind (lane s 1 0) _ z ∙ lane_first (lane s 2 0) _ z (w.word 2 0 (omega arith) (omega arith)) hz)
squeezed_at s w (suc (suc (suc zero))) z hx hz =
    let e : 64 * 3 + z ≡ 64 + (64 + (64 + z)) = omega arith in
    rw e
    (lane_behind (lane s 0 0) _ (64 + (64 + z)) ∙ lane_behind (lane s 1 0) _ (64 + z) ∙ lane_behind (lane s 2 0) (bytes 8 (lane s 3 0)) z
    ∙ bytes_bits (lane s 3 0) z (w.word 3 0 (omega arith) (omega arith)))
squeezed_at s w (suc (suc (suc (suc x)))) z hx hz = absurd (omega arith)

squeezed : (s : StateArray) (A : Bits) → Words s → Agree (view s) A → bits_of (squeeze s) ≡ string_of 256 A
unfolding squeeze
squeezed s A w e =
    let long : length (squeeze s) ≡ 32 = simp (length-append, length_bytes) in
    let n : length (bits_of (squeeze s)) ≡ 256 = omega (arith, length_bits (squeeze s)) in
    sym (list_get_d (bits_of (squeeze s)))
    ∙ ap (λ (k : ℕ). list k (λ i. get_or (bits_of (squeeze s)) i 0)) n
    ∙ list_cong 256 (λ i l.
    let x : i / 64 ≡ i / 64 % 5 = omega arith in
    let y : 0 ≡ i / 64 / 5 = omega arith in
    let p : i ≡ 64 * (i / 64) + i % 64 = omega arith in
    ap (λ (j : ℕ). get_or (bits_of (squeeze s)) j 0) p
    ∙ squeezed_at s w (i / 64) (i % 64) (omega arith) (omega arith)
    ∙ ap₂ (λ (a b : ℕ). view s a b (i % 64)) x y
    ∙ e.same (i / 64 % 5) (i / 64 / 5) (i % 64) (omega arith) (omega arith) (omega arith))

zero_words : Words zero_state
unfolding zero_state
zero_words = record { word = λ x y hx hy. rw (lane_lanes (λ i j. 0) x y hx hy) (omega arith) }

zero_bits : Agree (view zero_state) (λ x y z. 0)
unfolding zero_state
zero_bits = record { same = λ x y z hx hy hz. ap (λ (l : ℕ). bit l z) (lane_lanes (λ i j. 0) x y hx hy) ∙ bit_zero z }

-- SHA3-256 of bytes is that of their bits
pub sha3_bits : (m : Bytes) → Octets m → bits_of (sha3 m) ≡ sha3_256 (bits_of m)
unfolding blocks.sponge sponge sha3_256
sha3_bits m o =
    let at = length m % 136 in
    let p = m ++ padding at in
    let l : length p ≡ 136 * (length m / 136 + 1) = length-append m (padding at) ∙ omega (arith, length_padding at (omega arith)) in
    let n : length m / 136 + 1 ≡ length (bits_of p) / 1088 = omega (arith, length_bits p) in
    let s = absorb_blocks (length m / 136 + 1) zero_state p in
    let a = blocks_bits (length m / 136 + 1) zero_state (λ x y z. 0) p zero_words zero_bits (octets_append m (padding at) o (octets_padding at)) l in
    ap bits_of (sym (sponge_is_sha3 m o))
    ∙ squeezed s (absorbed (length m / 136 + 1) (λ x y z. 0) (bits_of p)) (blocks_words (length m / 136 + 1) zero_state p zero_words (octets_append m (padding at) o (octets_padding at)) l) a
    ∙ ap (λ (k : ℕ). string_of 256 (absorbed k (λ x y z. 0) (bits_of p))) n
    ∙ ap (λ (P : List ℕ). string_of 256 (absorbed (length P / 1088) (λ x y z. 0) P)) (sym (padded m))
