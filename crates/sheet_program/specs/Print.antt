-- Document 01, "Sheet": what the sheet program prints. Assumes nothing.
use Rattle.std.specs.Prelude.{◌≡◌, cond, [], ◌∷◌, ◌++◌, ℕ, ◌+◌, ◌≤◌, ltb, length}
use Rattle.codec.specs.Bytes.{Bytes, put}
use Rattle.sheet_lines.specs.Form.{decimal}
use Rattle.sheet_numbers.specs.Bounds.{unknown_count}
use Rattle.sheet_numbers.specs.Plain.{noise_bound_of, mask_bound_of}
use Rattle.sheet.specs.Sheet.{reading, Reading, Taken, Refused}

-- a printed line: a key with = after it, a number in decimal, LF
unfoldable pub printed_line : Bytes → ℕ → Bytes
printed_line key n = key ++ (decimal 20 n ++ 10 ∷ [])

-- verdict=
abbrev pub verdict= : Bytes
verdict= = 118 ∷ 101 ∷ 114 ∷ 100 ∷ 105 ∷ 99 ∷ 116 ∷ 61 ∷ []

-- ring=, noise=, mask=, unknowns=
abbrev pub ring= : Bytes
ring= = 114 ∷ 105 ∷ 110 ∷ 103 ∷ 61 ∷ []

abbrev pub noise= : Bytes
noise= = 110 ∷ 111 ∷ 105 ∷ 115 ∷ 101 ∷ 61 ∷ []

abbrev pub mask= : Bytes
mask= = 109 ∷ 97 ∷ 115 ∷ 107 ∷ 61 ∷ []

abbrev pub unknown_count= : Bytes
unknown_count= = 117 ∷ 110 ∷ 107 ∷ 110 ∷ 111 ∷ 119 ∷ 110 ∷ 115 ∷ 61 ∷ []

-- verdict, N, D, B and L; a refusal prints the verdict line only
unfoldable pub printed_by : Reading → Bytes
printed_by (Taken k) =
    printed_line verdict= 0 ++ printed_line ring= k.ring ++ printed_line noise= (noise_bound_of k) ++ printed_line mask= (mask_bound_of k) ++ printed_line unknown_count= (unknown_count k.ring)
printed_by (Refused n) = printed_line verdict= n

-- over 65,536 bytes: verdict 1
unfoldable pub printed : Bytes → Bytes
printed text = cond (ltb 65536 (length text)) (printed_line verdict= 1) (printed_by (reading text))

-- t was put into d from at to r
pub record Puts (d : Bytes) (at : ℕ) (t : Bytes) (r : ℕ) (out : Bytes) : Type 0 where
  pub wrote : out ≡ put d at t
  pub end : r ≡ at + length t
  pub fits : r ≤ length d
