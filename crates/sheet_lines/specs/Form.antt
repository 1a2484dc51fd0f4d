-- Document 01, "Sheet": how the lines of a sheet are written. Bytes are numbers: 48 to 57 are the digits, 44 is the comma, 61 is =, 10 is LF.
-- Assumes nothing.
use Rattle.std.specs.Prelude.{cond, List, [], ◌∷◌, ◌++◌, ℕ, zero, suc, ◌+◌, ◌/◌, ◌%◌, ◌^◌, ◌<◌, ltb}
use Rattle.codec.specs.Bytes.{Bytes}

-- v in decimal, in at most k digits, with no leading zero
unfoldable pub decimal : ℕ → ℕ → Bytes
decimal zero v = []
decimal (suc k) v = cond (ltb v 10) ((48 + v) ∷ []) (decimal k (v / 10) ++ (48 + v % 10) ∷ [])

-- numbers with commas between them
unfoldable pub listed : List ℕ → Bytes
listed [] = []
listed (v ∷ []) = decimal 17 v
listed (v ∷ w ∷ vs) = decimal 17 v ++ 44 ∷ listed (w ∷ vs)

-- lines, each a key with = after it, its numbers, LF
unfoldable pub lines : List Bytes → List (List ℕ) → Bytes
lines [] rs = []
lines (k ∷ ks) [] = []
lines (k ∷ ks) (r ∷ rs) = k ++ (listed r ++ 10 ∷ lines ks rs)

-- ring= modulus= drown= rounds= repeats=
abbrev pub number_keys : List Bytes
number_keys =
    (114 ∷ 105 ∷ 110 ∷ 103 ∷ 61 ∷ [])
    ∷ (109 ∷ 111 ∷ 100 ∷ 117 ∷ 108 ∷ 117 ∷ 115 ∷ 61 ∷ [])
    ∷ (100 ∷ 114 ∷ 111 ∷ 119 ∷ 110 ∷ 61 ∷ [])
    ∷ (114 ∷ 111 ∷ 117 ∷ 110 ∷ 100 ∷ 115 ∷ 61 ∷ [])
    ∷ (114 ∷ 101 ∷ 112 ∷ 101 ∷ 97 ∷ 116 ∷ 115 ∷ 61 ∷ [])
    ∷ []

-- a= b= k1= k2= k3=
abbrev pub list_keys : List Bytes
list_keys =
    (97 ∷ 61 ∷ [])
    ∷ (98 ∷ 61 ∷ [])
    ∷ (107 ∷ 49 ∷ 61 ∷ [])
    ∷ (107 ∷ 50 ∷ 61 ∷ [])
    ∷ (107 ∷ 51 ∷ 61 ∷ [])
    ∷ []

-- at least one number, each of at most 17 digits
abbrev pub Plain : List ℕ → Type 0
Plain [] = ⊥
Plain (v ∷ []) = v < 10 ^ 17
Plain (v ∷ w ∷ vs) = (v < 10 ^ 17) × Plain (w ∷ vs)

abbrev pub AllPlain : List (List ℕ) → Type 0
AllPlain [] = Unit
AllPlain (r ∷ rs) = Plain r × AllPlain rs
