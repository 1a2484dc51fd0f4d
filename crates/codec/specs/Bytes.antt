-- Bytes in lists: little-endian numbers, parts, a part put in place (document 01, "Layouts"). Assumes nothing.
use Rattle.std.specs.Prelude.{Bool, true, false, cond, ◌&&◌, List, [], ◌∷◌, ◌++◌, ℕ, zero, suc, ◌+◌, ◌*◌, ◌/◌, ◌%◌, ◌^◌, ◌<◌, eqb, ltb, ℤ, pos, ◌-ℤ◌, length, take, drop, get_or, replicate}

abbrev pub Bytes : Type 0
Bytes = List ℕ

-- each byte is below 256
abbrev pub Octets : Bytes → Type 0
Octets s = (i : ℕ) → i < length s → get_or s i 0 < 256

-- the k low bytes of v, the least first
unfoldable pub bytes : ℕ → ℕ → Bytes
bytes zero v = []
bytes (suc k) v = v % 256 ∷ bytes k (v / 256)

-- the numbers of a list in 8 bytes each
unfoldable pub words : List ℕ → Bytes
words [] = []
words (x ∷ xs) = bytes 8 x ++ words xs

-- the number that bytes hold, the least first
unfoldable pub number : Bytes → ℕ
number [] = 0
number (b ∷ s) = b + 256 * number s

-- what 64 bits mean in two's complement
unfoldable pub signed : ℕ → ℤ
signed v = cond (ltb v (2 ^ 63)) (pos v) (pos v -ℤ pos (2 ^ 64))

-- the n bytes of s from at
abbrev pub part : Bytes → ℕ → ℕ → Bytes
part s at n = take n (drop at s)

-- d with s in the place of its bytes from at
unfoldable pub put : Bytes → ℕ → Bytes → Bytes
put d at s = take at d ++ (s ++ drop (at + length s) d)

abbrev pub zeros : ℕ → Bytes
zeros n = replicate n 0

-- whether two byte strings are equal
unfoldable pub same : Bytes → Bytes → Bool
same [] [] = true
same [] (b ∷ t) = false
same (a ∷ s) [] = false
same (a ∷ s) (b ∷ t) = eqb a b && same s t
