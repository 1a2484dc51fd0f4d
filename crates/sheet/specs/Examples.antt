-- Document 01's own sheet, as its ten lines and as what they say, and the sheets of its example I. Assumes nothing.
use Rattle.std.specs.Prelude.{List, [], ◌∷◌, ℕ}
use Rattle.codec.specs.Bytes.{Bytes}
use Rattle.sheet_numbers.specs.declared.Numbers.{Numbers}
use Rattle.sheet.specs.Form.{Sheet, written}

abbrev pub small_numbers : ℕ → Numbers
small_numbers q = record { ring = 4; modulus = q; drown = 0; rounds = 1; repeats = 1 }

-- document 01's sheet, with another modulus q and another list b
abbrev pub small : ℕ → List ℕ → Sheet
small q b = record {
  numbers = small_numbers q;
  a = 3 ∷ 5 ∷ 0 ∷ 0 ∷ [];
  b = b;
  k1 = 10 ∷ 0 ∷ 0 ∷ 0 ∷ [];
  k2 = 0 ∷ 20 ∷ 0 ∷ 0 ∷ [];
  k3 = 0 ∷ 0 ∷ 30 ∷ 0 ∷ [];
}

-- the ten lines as document 01 has them: ring=4 modulus=97 drown=0 rounds=1 repeats=1 a=3,5,0,0 b=3,7,94,92 k1=10,0,0,0 k2=0,20,0,0 k3=0,0,30,0
abbrev pub text : Bytes
text =
    114 ∷ 105 ∷ 110 ∷ 103 ∷ 61 ∷ 52 ∷ 10 ∷ 109 ∷ 111 ∷ 100 ∷ 117 ∷ 108 ∷ 117 ∷ 115 ∷ 61 ∷ 57 ∷ 55 ∷ 10 ∷ 100 ∷ 114 ∷
    111 ∷ 119 ∷ 110 ∷ 61 ∷ 48 ∷ 10 ∷ 114 ∷ 111 ∷ 117 ∷ 110 ∷ 100 ∷ 115 ∷ 61 ∷ 49 ∷ 10 ∷ 114 ∷ 101 ∷ 112 ∷ 101 ∷ 97 ∷
    116 ∷ 115 ∷ 61 ∷ 49 ∷ 10 ∷ 97 ∷ 61 ∷ 51 ∷ 44 ∷ 53 ∷ 44 ∷ 48 ∷ 44 ∷ 48 ∷ 10 ∷ 98 ∷ 61 ∷ 51 ∷ 44 ∷ 55 ∷ 44 ∷ 57 ∷
    52 ∷ 44 ∷ 57 ∷ 50 ∷ 10 ∷ 107 ∷ 49 ∷ 61 ∷ 49 ∷ 48 ∷ 44 ∷ 48 ∷ 44 ∷ 48 ∷ 44 ∷ 48 ∷ 10 ∷ 107 ∷ 50 ∷ 61 ∷ 48 ∷ 44 ∷
    50 ∷ 48 ∷ 44 ∷ 48 ∷ 44 ∷ 48 ∷ 10 ∷ 107 ∷ 51 ∷ 61 ∷ 48 ∷ 44 ∷ 48 ∷ 44 ∷ 51 ∷ 48 ∷ 44 ∷ 48 ∷ 10 ∷ []

-- I: the text of that sheet with another modulus and b all zeros
abbrev pub text_i : ℕ → Bytes
text_i q = written (small q (0 ∷ 0 ∷ 0 ∷ 0 ∷ []))
