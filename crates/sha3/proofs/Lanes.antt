-- Bytes that are xored into a lane one after another are xored in as one number. Assumes nothing.
use mathlib.Core.Path.{◌≡◌, refl, sym, ap, ap₂, ◌∙◌}
use mathlib.Core.List.{[], ◌∷◌}
use Prim.Native.Nat.{ℕ, zero, suc, ◌+◌, ◌*◌, ◌/◌, ◌%◌, ◌^◌, ◌≤◌, ◌<◌}
use native.Mathlib.Nat.{zero-mul, mul-one}
use native.Mathlib.Omega.{arith}
use lib.Arith.{bin_ind}
use lib.Bits.{bit_xor, xor_zero_r, xor_comm, xor_shr, xor_mod, xor_shifted}
use lib.ListN.{length, get_or, set, length-set}
use lib.Pow.{pow-add, shl_lt}
use lib.Seq.{set-get_or, set-set, get_or-set_same}
use Rattle.codec.specs.Bytes.{Bytes, Octets, number}
use Rattle.keccak.specs.Keccak.{StateArray, Row, lane}
use Rattle.sha3.specs.Absorb.{xor_lane, xor_byte}

-- ---- exclusive or is associative

bits : (x y z : ℕ) → x < 2 → y < 2 → z < 2 → bit_xor (bit_xor x y) z ≡ bit_xor x (bit_xor y z)
bits zero y z hx hy hz = refl
bits (suc zero) zero z hx hy hz = refl
bits (suc zero) (suc zero) zero hx hy hz = refl
bits (suc zero) (suc zero) (suc zero) hx hy hz = refl
bits (suc zero) (suc zero) (suc (suc z)) hx hy hz = absurd (omega arith)
bits (suc zero) (suc (suc y)) z hx hy hz = absurd (omega arith)
bits (suc (suc x)) y z hx hy hz = absurd (omega arith)

-- by the halves and the lowest bits
halved : (a b : ℕ) → a / 2 ≡ b / 2 → a % 2 ≡ b % 2 → a ≡ b
halved a b h l = omega arith

pub xor_assoc : (a b c : ℕ) → bit_xor (bit_xor a b) c ≡ bit_xor a (bit_xor b c)
xor_assoc = bin_ind (λ (a : ℕ). (b c : ℕ) → bit_xor (bit_xor a b) c ≡ bit_xor a (bit_xor b c)) (λ b c. refl) step
  where
    step : (a : ℕ) → ((b c : ℕ) → bit_xor (bit_xor (a / 2) b) c ≡ bit_xor (a / 2) (bit_xor b c)) → (b c : ℕ) → bit_xor (bit_xor a b) c ≡ bit_xor a (bit_xor b c)
    step a r b c =
        halved _ _
        (xor_shr (bit_xor a b) c 1 ∙ ap (λ (x : ℕ). bit_xor x (c / 2)) (xor_shr a b 1) ∙ r (b / 2) (c / 2)
        ∙ ap (bit_xor (a / 2)) (sym (xor_shr b c 1)) ∙ sym (xor_shr a (bit_xor b c) 1))
        (xor_mod (bit_xor a b) c 1 ∙ ap (λ (x : ℕ). bit_xor x (c % 2)) (xor_mod a b 1) ∙ bits (a % 2) (b % 2) (c % 2) (omega arith) (omega arith) (omega arith)
        ∙ ap (bit_xor (a % 2)) (sym (xor_mod b c 1)) ∙ sym (xor_mod a (bit_xor b c) 1))

-- ---- bytes into one lane

-- the bytes m, the first into byte k
xor_bytes : ℕ → ℕ → Bytes → ℕ
xor_bytes l k [] = l
xor_bytes l k (b ∷ m) = xor_bytes (xor_lane l k b) (k + 1) m

-- a byte below the bytes after it
disjoint : (b n k : ℕ) → b < 256 → bit_xor (b * 2 ^ (k * 8)) (n * 2 ^ ((k + 1) * 8)) ≡ (b + 256 * n) * 2 ^ (k * 8)
disjoint b n k h =
    let P = 2 ^ (k * 8) in
    let e : 2 ^ ((k + 1) * 8) ≡ 256 * P = ap (λ (i : ℕ). 2 ^ i) (omega arith) ∙ pow-add 2 8 (k * 8) in
    xor_comm (b * P) (n * 2 ^ ((k + 1) * 8))
    ∙ xor_shifted n ((k + 1) * 8) (b * P) (rw (e, ← (pow-add 2 8 (k * 8))) (shl_lt 8 (k * 8) h))
    ∙ rw e (omega arith)

together : (m : Bytes) (l k : ℕ) → Octets m → xor_bytes l k m ≡ bit_xor l (number m * 2 ^ (k * 8))
unfolding xor_bytes xor_lane number
together [] l k o = rw zero-mul (sym (xor_zero_r l))
together (b ∷ m) l k o =
    together m (xor_lane l k b) (k + 1) (λ i h. o (suc i) (omega arith))
    ∙ xor_assoc l (b * 2 ^ (k * 8)) (number m * 2 ^ ((k + 1) * 8))
    ∙ ap (bit_xor l) (disjoint b (number m) k (o 0 (omega arith)))

-- ---- lanes of a state by their number, 5 y + x

unfoldable pub lane_at : StateArray → ℕ → ℕ
lane_at s k = lane s (k % 5) (k / 5)

unfoldable pub set_lane : StateArray → ℕ → ℕ → StateArray
set_lane s k v = set s (k / 5) (set (get_or s (k / 5) []) (k % 5) v)

-- bytes that are xored in one by one, with no permutation
unfoldable pub xors : StateArray → ℕ → Bytes → StateArray
xors s i [] = s
xors s i (b ∷ m) = xors (xor_byte s i b) (i + 1) m

-- the state has a lane k
pub record Has (s : StateArray) (k : ℕ) : Type 0 where
  pub row : k / 5 < length s
  pub column : k % 5 < length (get_or s (k / 5) [])

byte_in : (s : StateArray) (k j b : ℕ) → j < 8 → xor_byte s (8 * k + j) b ≡ set_lane s k (xor_lane (lane_at s k) j b)
unfolding xor_byte set_lane lane_at
byte_in s k j b h =
    let y : (8 * k + j) / 40 ≡ k / 5 = omega arith in
    let x : (8 * k + j) / 8 % 5 ≡ k % 5 = omega arith in
    let z : (8 * k + j) % 8 ≡ j = omega arith in
    rw (y, x, z)

module _ (s : StateArray) (k v : ℕ) (h : Has s k) where
  row_set : get_or (set_lane s k v) (k / 5) [] ≡ set (get_or s (k / 5) []) (k % 5) v
  unfolding set_lane
  row_set = get_or-set_same s (k / 5) (set (get_or s (k / 5) []) (k % 5) v) [] h.row

  lane_set : lane_at (set_lane s k v) k ≡ v
  unfolding lane_at
  lane_set = ap (λ (r : Row). get_or r (k % 5) 0) row_set ∙ get_or-set_same (get_or s (k / 5) []) (k % 5) v 0 h.column

  still : Has (set_lane s k v) k
  unfolding set_lane
  still = record {
    row = rw (length-set s (k / 5) (set (get_or s (k / 5) []) (k % 5) v)) h.row;
    column = rw (row_set, length-set (get_or s (k / 5) []) (k % 5) v) h.column;
  }

  twice : (w : ℕ) → set_lane (set_lane s k v) k w ≡ set_lane s k w
  unfolding set_lane
  twice w =
      ap (λ (r : Row). set (set_lane s k v) (k / 5) (set r (k % 5) w)) row_set
      ∙ ap (λ (r : Row). set (set_lane s k v) (k / 5) r) (set-set (get_or s (k / 5) []) (k % 5) v w)
      ∙ set-set s (k / 5) (set (get_or s (k / 5) []) (k % 5) v) (set (get_or s (k / 5) []) (k % 5) w)

same_lane : (s : StateArray) (k : ℕ) → set_lane s k (lane_at s k) ≡ s
unfolding set_lane lane_at
same_lane s k = ap (λ (r : Row). set s (k / 5) r) (set-get_or (get_or s (k / 5) []) (k % 5) 0) ∙ set-get_or s (k / 5) []

run : (m : Bytes) (s : StateArray) (k j : ℕ) → Has s k → j + length m ≤ 8 → xors s (8 * k + j) m ≡ set_lane s k (xor_bytes (lane_at s k) j m)
unfolding xors xor_bytes
run [] s k j h l = sym (same_lane s k)
run (b ∷ m) s k j h l =
    let v = xor_lane (lane_at s k) j b in
    let t = set_lane s k v in
    let i : 8 * k + j + 1 ≡ 8 * k + (j + 1) = omega arith in
    ap₂ (λ (u : StateArray) (n : ℕ). xors u n m) (byte_in s k j b (omega arith)) i
    ∙ run m t k (j + 1) (still s k v h) (omega arith)
    ∙ ap (λ (w : ℕ). set_lane t k (xor_bytes w (j + 1) m)) (lane_set s k v h)
    ∙ twice s k v h (xor_bytes v (j + 1) m)

-- the eight bytes of a lane
pub eight : (m : Bytes) (s : StateArray) (k : ℕ) → Has s k → Octets m → length m ≡ 8 → xors s (8 * k) m ≡ set_lane s k (bit_xor (lane_at s k) (number m))
eight m s k h o l =
    ap (λ (i : ℕ). xors s i m) (omega arith)
    ∙ run m s k 0 h (omega arith)
    ∙ ap (set_lane s k) (together m (lane_at s k) 0 o ∙ ap (bit_xor (lane_at s k)) (mul-one (number m)))
