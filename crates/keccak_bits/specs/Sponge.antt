-- FIPS 202, sections 4, 5.1, 6.1 and B.1, as they are written there: SHA3-256 on strings of bits, which are lists of 0 and 1. Assumes nothing.
use Rattle.std.specs.Prelude.{List, [], ◌∷◌, ◌++◌, ℕ, zero, suc, ◌+◌, ◌-◌, ◌*◌, ◌/◌, ◌%◌, length, get_or, take, drop, replicate}
use Rattle.codec.specs.Bytes.{Bytes}
use Rattle.codec.specs.Lists.{list}
use Rattle.keccak.specs.Keccak.{bit}
use Rattle.keccak_bits.specs.Bits.{Bits, ◌⊕◌, rounds}

-- B.1: the bits of a string of bytes, the least of each byte first
unfoldable pub bits_of : Bytes → List ℕ
bits_of [] = []
bits_of (b ∷ m) = bit b 0 ∷ bit b 1 ∷ bit b 2 ∷ bit b 3 ∷ bit b 4 ∷ bit b 5 ∷ bit b 6 ∷ bit b 7 ∷ bits_of m

-- 5.1, pad10*1 (x, m): 1, then j zeros, then 1, where j is (- m - 2) mod x
unfoldable pub pad : (x m : ℕ) → List ℕ
pad x m = 1 ∷ (replicate ((x - (m + 2) % x) % x) 0 ++ (1 ∷ []))

-- 3.1.2: the bit A[x, y, z] of a state array is bit 64 (5 y + x) + z of the string; past the string there are zeros
abbrev pub array_of : List ℕ → Bits
array_of S x y z = get_or S (64 * (5 * y + x) + z) 0

-- 3.1.3: the first n bits of the string of a state array
abbrev pub string_of : ℕ → Bits → List ℕ
string_of n A = list n (λ i. A (i / 64 % 5) (i / 64 / 5) (i % 64))

-- 4, steps 5 and 6, with f the 24 rounds and the rate r = 1088: S = f (S xor (P_i || 0^c)), for each of n blocks of P
unfoldable pub absorbed : ℕ → Bits → List ℕ → Bits
absorbed zero S P = S
absorbed (suc n) S P = absorbed n (rounds 24 (λ x y z. S x y z ⊕ array_of (take 1088 P) x y z)) (drop 1088 P)

-- 4: SPONGE[f, pad10*1, 1088] (N, 256); one block holds the 256 bits that are squeezed
unfoldable pub sponge : List ℕ → List ℕ
sponge N =
    let P = N ++ pad 1088 (length N) in
    string_of 256 (absorbed (length P / 1088) (λ x y z. 0) P)

-- 6.1: SHA3-256 (M) = KECCAK[512] (M || 01, 256)
unfoldable pub sha3_256 : List ℕ → List ℕ
sha3_256 M = sponge (M ++ (0 ∷ 1 ∷ []))
