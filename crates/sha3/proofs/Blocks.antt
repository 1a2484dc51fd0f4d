-- A whole block is the block byte by byte, and so are the blocks of FIPS 202, section 4, one after another. Assumes nothing.
use mathlib.Core.Path.{◌≡◌, refl, sym, ap, ap₂, subst, ◌∙◌}
use mathlib.Core.List.{[], ◌∷◌, ◌++◌}
use Prim.Native.Nat.{ℕ, zero, suc, ◌+◌, ◌*◌, ◌/◌, ◌%◌, ◌≤◌, ◌<◌}
use native.Mathlib.Decide.{ℕ_discrete}
use native.Mathlib.Omega.{arith}
use borrow.Author.Tests.{le-ltb}
use lib.Bits.{bit_xor, xor_zero_r}
use lib.ListN.{length, get_or, set, take, drop, length-append, length-drop, length-set, take-append-drop, drop_of_length-le}
use lib.Seq.{take_at, drop_at, drop-drop, length-take-le, get_or-set_same, get_or-set_other}
use Rattle.codec.specs.Bytes.{Bytes, Octets, number, part}
use Rattle.codec.proofs.Laws.{length_part, part_none, octets_drop, octets_part}
use Rattle.keccak.specs.Keccak.{StateArray, lane, lanes, keccak}
use Rattle.keccak.proofs.Rows.{row5}
use Rattle.keccak.proofs.Shape.{Shape, shaped, keccak_shape}
use Rattle.sha3.specs.Internal.{xor_block, absorb_blocks}
use Rattle.sha3.specs.Absorb.{xor_byte, feed, absorb}
use Rattle.sha3.proofs.Absorbing.{feed_early, split_at}
use Rattle.sha3.proofs.Lanes.{lane_at, set_lane, xors, Has, eight}

-- the bytes to a block's end
full : (m : Bytes) (b : ℕ) (s : StateArray) (at : ℕ) → at + suc (length m) ≡ 136 → absorb s at (b ∷ m) ≡ keccak (xors s at (b ∷ m))
unfolding absorb feed xors
full [] b s at h =
    let late : 135 ≤ at = omega arith in simp (le-ltb _ _ late)
full (c ∷ m) b s at h =
    let one : (at + 1) % 136 ≡ at + 1 = omega arith in
    ap₂ (λ (t : StateArray) (k : ℕ). absorb t k (c ∷ m)) (feed_early s at b (omega arith)) one ∙ full m c (xor_byte s at b) (at + 1) (omega arith)

-- bytes side by side
pub xors_append : (a b : Bytes) (s : StateArray) (i : ℕ) → xors s i (a ++ b) ≡ xors (xors s i a) (i + length a) b
unfolding xors
xors_append [] b s i = ap (λ (k : ℕ). xors s k b) (omega arith)
xors_append (x ∷ a) b s i = xors_append a b (xor_byte s i x) (i + 1) ∙ ap (λ (k : ℕ). xors (xors (xor_byte s i x) (i + 1) a) k b) (omega arith)

-- ---- a lane at a time

-- n lanes of the bytes p, the first lane k
xor_lanes : ℕ → ℕ → StateArray → Bytes → StateArray
xor_lanes zero k s p = s
xor_lanes (suc n) k s p = xor_lanes n (k + 1) (set_lane s k (bit_xor (lane_at s k) (number (part p (8 * k) 8)))) p

-- every lane is there, and stays there
abbrev All : StateArray → Type 0
All s = (k : ℕ) → k < 25 → Has s k

shape_all : (s : StateArray) → Shape s → All s
shape_all s h k l = record { row = rw h.rows (omega arith); column = rw (h.row (k / 5) (omega arith)) (omega arith) }

all_set : (s : StateArray) (k v : ℕ) → All s → k < 25 → All (set_lane s k v)
unfolding set_lane
all_set s k v h l j hj = record { row = rw length-set (h j hj).row; column = go (ℕ_discrete (j / 5) (k / 5)) }
  where
    go : Dec (j / 5 ≡ k / 5) → j % 5 < length (get_or (set s (k / 5) (set (get_or s (k / 5) []) (k % 5) v)) (j / 5) [])
    go (yes e) = rw (e, get_or-set_same s (k / 5) (set (get_or s (k / 5) []) (k % 5) v) [] (h k l).row, length-set, ← e) (h j hj).column
    go (no d) = rw (get_or-set_other s (k / 5) (j / 5) (set (get_or s (k / 5) []) (k % 5) v) [] d) (h j hj).column

by_lanes : (n k : ℕ) (s : StateArray) (p : Bytes) → All s → Octets p → k + n ≤ 25 → length p ≡ 8 * (k + n) → xors s (8 * k) (drop (8 * k) p) ≡ xor_lanes n k s p
unfolding xors xor_lanes
by_lanes zero k s p h o l e = ap (xors s (8 * k)) (drop_of_length-le p {i = 8 * k} (omega arith))
by_lanes (suc m) k s p h o l e =
    let c = part p (8 * k) 8 in
    let t = set_lane s k (bit_xor (lane_at s k) (number c)) in
    let w : length c ≡ 8 = length_part p (8 * k) 8 (omega arith) in
    let i : 8 * k + length c ≡ 8 * (k + 1) = omega arith in
    let n : 8 * k + 8 ≡ 8 * (k + 1) = omega arith in
    let d : drop (8 * k) p ≡ c ++ drop (8 * (k + 1)) p =
    sym (take-append-drop 8 (drop (8 * k) p)) ∙ ap (λ (r : Bytes). c ++ r) (drop-drop 8 (8 * k) p ∙ ap (λ (j : ℕ). drop j p) n) in
    ap (xors s (8 * k)) d
    ∙ xors_append c (drop (8 * (k + 1)) p) s (8 * k)
    ∙ ap₂ (λ (u : StateArray) (j : ℕ). xors u j (drop (8 * (k + 1)) p)) (eight c s k (h k (omega arith)) (octets_part p (8 * k) 8 o) w) i
    ∙ by_lanes m (k + 1) t p (all_set s k (bit_xor (lane_at s k) (number c)) h (omega arith)) o (omega arith) (omega arith)

-- ---- a block

-- past the block a lane stays as it is
pub past : (p : Bytes) (l k : ℕ) → length p ≤ k → l ≡ bit_xor l (number (part p k 8))
unfolding number
past p l k h = sym (ap (λ (t : Bytes). bit_xor l (number t)) (part_none p k 8 h) ∙ xor_zero_r l)

-- both sides are computed, with the lanes g as unknowns
reached : (g : ℕ → ℕ → ℕ) (p : Bytes) → length p ≡ 136 → xor_lanes 17 0 (lanes g) p ≡ xor_block (lanes g) p
unfolding xor_lanes lane_at set_lane xor_block
reached g p h =
    row5 refl refl refl
    (row5 refl refl (past p (g 2 3) 136 (omega arith)) (past p (g 3 3) 144 (omega arith)) (past p (g 4 3) 152 (omega arith)))
    (row5 (past p (g 0 4) 160 (omega arith)) (past p (g 1 4) 168 (omega arith)) (past p (g 2 4) 176 (omega arith)) (past p (g 3 4) 184 (omega arith)) (past p (g 4 4) 192 (omega arith)))

-- a block at once is the block byte by byte
pub block_bytes : (s : StateArray) (p : Bytes) → Shape s → Octets p → length p ≡ 136 → xors s 0 p ≡ xor_block s p
block_bytes s p h o e =
    let t = shaped s h in
    by_lanes 17 0 s p (shape_all s h) o (omega arith) (omega arith)
    ∙ ap (λ (u : StateArray). xor_lanes 17 0 u p) t ∙ reached (lane s) p e ∙ ap (λ (u : StateArray). xor_block u p) (sym t)

pub block : (s : StateArray) (p : Bytes) → Shape s → Octets p → length p ≡ 136 → keccak (xor_block s p) ≡ absorb s 0 p
block s [] h o e = absurd (omega arith)
block s (b ∷ m) h o e = sym (full m b s 0 (omega arith) ∙ ap keccak (block_bytes s (b ∷ m) h o e))

-- the first block, and then the rest
pub first_block : (s : StateArray) (p : Bytes) → Shape s → Octets p → 136 ≤ length p → absorb (keccak (xor_block s (take 136 p))) 0 (drop 136 p) ≡ absorb s 0 p
first_block s p h o l =
    ap (λ (u : StateArray). absorb u 0 (drop 136 p)) (block s (take 136 p) h (octets_part p 0 136 o) (length-take-le 136 p l))
    ∙ split_at p 136 s 0 0 (omega arith) l refl

-- whole blocks p are left, and with them t comes to what s comes to with the message m
pub record Left (s : StateArray) (m : Bytes) (t : StateArray) (p : Bytes) : Type 0 where
  pub whole : length p % 136 ≡ 0
  pub octets : Octets p
  pub shape : Shape t
  pub same : absorb t 0 p ≡ absorb s 0 m

-- the block b less
pub left_less : {s t : StateArray} {m p : Bytes} (b r : Bytes) → Left s m t p → p ≡ b ++ r → length b ≡ 136 → Left s m (keccak (xor_block t b)) r
left_less {s} {t} {m} {p} b r h e n =
    let l : length p ≡ length b + length r = ap length e ∙ length-append b r in
    let x : take 136 p ≡ b = ap (take 136) e ∙ take_at b r 136 n in
    let y : drop 136 p ≡ r = ap (drop 136) e ∙ drop_at b r 136 n in
    let w = h.whole in
    record {
      whole = omega arith;
      octets = subst Octets y (octets_drop p 136 h.octets);
      shape = keccak_shape (xor_block t b);
      same = ap₂ (λ (u v : Bytes). absorb (keccak (xor_block t u)) 0 v) (sym x) (sym y) ∙ first_block t p h.shape h.octets (omega arith) ∙ h.same;
    }

-- ---- the blocks of section 4

pub blocks : (n : ℕ) (s : StateArray) (p : Bytes) → Shape s → Octets p → length p ≡ 136 * n → absorb_blocks n s p ≡ absorb s 0 p
unfolding absorb_blocks absorb
blocks zero s [] h o e = refl
blocks zero s (b ∷ p) h o e = absurd (omega arith)
blocks (suc n) s p h o e =
    let c = take 136 p in
    let r : length (drop 136 p) ≡ 136 * n = rw length-drop (omega arith) in
    blocks n (keccak (xor_block s c)) (drop 136 p) (keccak_shape (xor_block s c)) (octets_drop p 136 o) r ∙ first_block s p h o (omega arith)
