-- Document 01, "Sheet": how a sheet is written, in the lines of crates/sheet_lines/specs/Form.antt. `form_exactly` of proofs/Form.antt: the
-- reader of specs/Reader.antt takes these texts and no others. Assumes nothing.
use Rattle.std.specs.Prelude.{List, [], ◌∷◌, ◌++◌, ℕ}
use Rattle.codec.specs.Bytes.{Bytes}
use Rattle.sheet_numbers.specs.declared.Numbers.{Numbers}
use Rattle.sheet_lines.specs.Form.{lines, number_keys, list_keys}

-- what a sheet says: the five numbers, and the five lists
pub record Sheet : Type 0 where
  pub numbers : Numbers
  pub a : List ℕ
  pub b : List ℕ
  pub k1 : List ℕ
  pub k2 : List ℕ
  pub k3 : List ℕ

-- the numbers of the ten lines
abbrev pub rows_of : Sheet → List (List ℕ)
rows_of s =
    (s.numbers.ring ∷ [])
    ∷ (s.numbers.modulus ∷ [])
    ∷ (s.numbers.drown ∷ [])
    ∷ (s.numbers.rounds ∷ [])
    ∷ (s.numbers.repeats ∷ [])
    ∷ s.a
    ∷ s.b
    ∷ s.k1
    ∷ s.k2
    ∷ s.k3
    ∷ []

-- the text of a sheet
unfoldable pub written : Sheet → Bytes
written s = lines (number_keys ++ list_keys) (rows_of s)
