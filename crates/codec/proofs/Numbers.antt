-- Laws of little-endian numbers. Assumes nothing.
use mathlib.Core.Path.{◌≡◌, refl, sym, ap, ap₂, ◌∙◌}
use mathlib.Core.List.{List, [], ◌∷◌, ◌++◌, append-nil, append_assoc}
use Prim.Native.Nat.{ℕ, zero, suc, ◌+◌, ◌*◌, ◌/◌, ◌%◌, ◌^◌, ◌≤◌, ◌<◌}
use native.Mathlib.Nat.{mul_comm, pow-suc, pow-succ', one-le-pow, zero-add, suc-add, div-one, div-div-eq-div-mul}
use native.Mathlib.Numerals.{add-one}
use native.Mathlib.Omega.{arith}
use lib.Arith.{mod-mul}
use lib.ListN.{length, get_or, take, length-append}
use lib.Seq.{take_all, drop-cons}
use Rattle.codec.specs.Bytes.{Bytes, Octets, bytes, words, number, part, put}
use Rattle.codec.proofs.Laws.{length_part, part_append, put_append}

pub length_bytes : (k v : ℕ) → length (bytes k v) ≡ k
unfolding bytes
length_bytes zero v = refl
length_bytes (suc k) v = ap suc (length_bytes k (v / 256))

pub bytes_octets : (k v : ℕ) → Octets (bytes k v)
unfolding bytes
bytes_octets zero v i h = absurd (omega arith)
bytes_octets (suc k) v zero h = omega arith
bytes_octets (suc k) v (suc i) h = bytes_octets k (v / 256) i (omega arith)

-- written, then read
pub number_bytes : (k v : ℕ) → v < 256 ^ k → number (bytes k v) ≡ v
unfolding bytes number
number_bytes zero v h = omega arith
number_bytes (suc k) v h =
    let r = number_bytes k (v / 256) (omega (arith, rw pow-suc at h)) in
    ap (λ (n : ℕ). v % 256 + 256 * n) r ∙ omega arith

-- read, then written
pub bytes_number : (s : Bytes) → Octets s → bytes (length s) (number s) ≡ s
unfolding bytes number
bytes_number [] o = refl
bytes_number (b ∷ s) o =
    let l : b < 256 = o 0 (omega arith) in
    let low : (b + 256 * number s) % 256 ≡ b = omega arith in
    let high : (b + 256 * number s) / 256 ≡ number s = omega arith in
    ap₂ (λ (x n : ℕ). x ∷ bytes (length s) n) low high ∙ ap (λ (t : Bytes). b ∷ t) (bytes_number s (λ i h. o (suc i) (omega arith)))

pub number_lt : (s : Bytes) → Octets s → number s < 256 ^ length s
unfolding number
number_lt [] o = omega arith
number_lt (b ∷ s) o =
    let l : b < 256 = o 0 (omega arith) in
    let r = number_lt s (λ i h. o (suc i) (omega arith)) in
    rw pow-suc (omega arith)

pub bytes_injective : (k v w : ℕ) → v < 256 ^ k → w < 256 ^ k → bytes k v ≡ bytes k w → v ≡ w
bytes_injective k v w hv hw e = sym (number_bytes k v hv) ∙ ap number e ∙ number_bytes k w hw

pub number_injective : (s t : Bytes) → Octets s → Octets t → length s ≡ length t → number s ≡ number t → s ≡ t
number_injective s t os ot l e = sym (bytes_number s os) ∙ ap₂ bytes l e ∙ bytes_number t ot

-- ---- one byte

pub number_one : (s : Bytes) (at : ℕ) → at < length s → number (part s at 1) ≡ get_or s at 0
unfolding number
number_one s at h = rw (drop-cons s at 0 h) (omega arith)

pub bytes_one : (b : ℕ) → b < 256 → bytes 1 b ≡ b ∷ []
unfolding bytes
bytes_one b h = ap (λ (x : ℕ). x ∷ []) (omega arith)

-- ---- a number of two halves

pub number_append : (s t : Bytes) → number (s ++ t) ≡ number s + 256 ^ length s * number t
unfolding number
number_append [] t = omega arith
number_append (b ∷ s) t = rw (number_append s t, pow-suc) (omega arith)

-- the number in k + m bytes, by the number in k bytes and that in the m bytes after them
pub number_join : (s : Bytes) (at k m : ℕ) → at + k ≤ length s → number (part s at (k + m)) ≡ number (part s at k) + 256 ^ k * number (part s (at + k) m)
number_join s at k m h = rw (part_append s at k m, number_append (part s at k) (part s (at + k) m), length_part s at k h)

-- bytes 0 to k of s as the library's `from_le_bytes` adds them
abbrev summed : Bytes → ℕ → ℕ
summed s zero = get_or s 0 0
summed s (suc k) = summed s k + get_or s (suc k) 0 * 256 ^ suc k

pub from_bytes : (s : Bytes) (k : ℕ) → k < length s → summed s k ≡ number (take (suc k) s)
from_bytes s zero h = sym (number_one s 0 h)
from_bytes s (suc k) h =
    let j = number_join s 0 (suc k) 1 (omega arith) in
    rw (from_bytes s k (omega arith), rw (add-one (suc k), zero-add, number_one s (suc k) h) at j)
    (omega (arith, mul_comm (256 ^ suc k) (get_or s (suc k) 0)))

-- read from the k + 1 bytes at a place
pub from_part : (s : Bytes) (at k : ℕ) → at + suc k ≤ length s → {t : Bytes} → t ≡ part s at (suc k) → summed t k ≡ number (part s at (suc k))
from_part s at k h e =
    let l = length_part s at (suc k) h in
    rw e (from_bytes (part s at (suc k)) k (omega (arith, l)) ∙ ap number (take_all (suc k) (part s at (suc k)) (omega (arith, l))))

pub bytes_append : (j k v : ℕ) → bytes j (v % 256 ^ j) ++ bytes k (v / 256 ^ j) ≡ bytes (j + k) v
unfolding bytes
bytes_append zero k v = rw (zero-add, div-one)
bytes_append (suc j) k v =
    let p : 0 < 256 ^ j = one-le-pow j 256 (omega arith) in
    let e : v % 256 ^ suc j ≡ (v / 256 % 256 ^ j) * 256 + v % 256 = rw pow-suc (mod-mul v p (omega arith)) in
    let low : v % 256 ^ suc j % 256 ≡ v % 256 = omega arith in
    let high : v % 256 ^ suc j / 256 ≡ v / 256 % 256 ^ j = omega arith in
    let rest : v / 256 ^ suc j ≡ v / 256 / 256 ^ j = rw pow-succ' (sym (div-div-eq-div-mul v 256 (256 ^ j))) in
    rw (suc-add, low, high, rest) (ap (λ (t : Bytes). v % 256 ∷ t) (bytes_append j k (v / 256)))

-- byte i of v, and k bytes of it from that on, as the library's `to_le_bytes` has them
abbrev byte_at : ℕ → ℕ → ℕ
byte_at zero v = v % 256
byte_at (suc i) v = v / 256 ^ suc i % 256

abbrev bytes_at : ℕ → ℕ → ℕ → Bytes
bytes_at i zero v = []
bytes_at i (suc k) v = byte_at i v ∷ bytes_at (suc i) k v

pub to_bytes : (i k v : ℕ) → bytes_at i k v ≡ bytes k (v / 256 ^ i)
unfolding bytes
to_bytes i zero v = refl
to_bytes i (suc k) v = ap₂ (λ (b : ℕ) (t : Bytes). b ∷ t) (low i) (to_bytes (suc i) k v ∙ ap (bytes k) high)
  where
    low : (i : ℕ) → byte_at i v ≡ v / 256 ^ i % 256
    low zero = rw div-one refl
    low (suc i) = refl

    high : v / 256 ^ suc i ≡ v / 256 ^ i / 256
    high = rw pow-suc (sym (div-div-eq-div-mul v (256 ^ i) 256))

-- a number written as its low j bytes, and then its k bytes above them
pub put_join : (d : Bytes) (at j k v : ℕ) → at + (j + k) ≤ length d
    → put (put d at (bytes j (v % 256 ^ j))) (at + j) (bytes k (v / 256 ^ j)) ≡ put d at (bytes (j + k) v)
put_join d at j k v h =
    let l = length_bytes j (v % 256 ^ j) in
    let m = length_bytes k (v / 256 ^ j) in
    ap (λ (n : ℕ). put (put d at (bytes j (v % 256 ^ j))) (at + n) (bytes k (v / 256 ^ j))) (sym l)
    ∙ put_append d at (bytes j (v % 256 ^ j)) (bytes k (v / 256 ^ j)) (omega arith)
    ∙ ap (put d at) (bytes_append j k v)

-- ---- lists of 8-byte numbers

pub length_words : (xs : List ℕ) → length (words xs) ≡ 8 * length xs
unfolding words
length_words [] = refl
length_words (x ∷ xs) = simp length-append (omega (arith, length_bytes 8 x, length_words xs))

pub words_append : (xs ys : List ℕ) → words (xs ++ ys) ≡ words xs ++ words ys
unfolding words
words_append [] ys = refl
words_append (x ∷ xs) ys = rw (words_append xs ys) (sym (append_assoc (bytes 8 x) (words xs) (words ys)))

pub words_one : (v : ℕ) → words (v ∷ []) ≡ bytes 8 v
unfolding words
words_one v = append-nil (bytes 8 v)
