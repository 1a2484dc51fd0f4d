-- Document 01, "Sheet": the reader of a text, by its lines (`rows`, crates/sheet_lines/specs/Reader.antt). It undoes `written` of specs/Form.antt
-- and refuses any other text. Assumes nothing.
use Rattle.std.specs.Prelude.{Bool, false, List, [], ◌∷◌, ◌++◌, ℕ, eqb, length, take, get_or}
use Rattle.codec.specs.Bytes.{Bytes}
use Rattle.codec.specs.Lists.{every}
use Rattle.sheet_lines.specs.Form.{number_keys, list_keys}
use Rattle.sheet_lines.specs.Reader.{Block, broken, block, rows}
use Rattle.sheet.specs.Form.{Sheet}

-- the whole text is the ten lines, the first five of one number each
abbrev pub whole : Block → Bool
whole broken = false
whole (block rs []) = every (λ r. eqb (length r) 1) (take 5 rs)
whole (block rs (c ∷ t)) = false

unfoldable pub formed : Bytes → Bool
formed text = whole (rows (number_keys ++ list_keys) text)

-- what its lines say
abbrev pub said : Block → List (List ℕ)
said broken = []
said (block rs t) = rs

abbrev pub sheet_from : List (List ℕ) → Sheet
sheet_from rs = record {
  numbers = record {
    ring = get_or (get_or rs 0 []) 0 0;
    modulus = get_or (get_or rs 1 []) 0 0;
    drown = get_or (get_or rs 2 []) 0 0;
    rounds = get_or (get_or rs 3 []) 0 0;
    repeats = get_or (get_or rs 4 []) 0 0;
  };
  a = get_or rs 5 [];
  b = get_or rs 6 [];
  k1 = get_or rs 7 [];
  k2 = get_or rs 8 [];
  k3 = get_or rs 9 [];
}

unfoldable pub sheet_of : Bytes → Sheet
sheet_of text = sheet_from (said (rows (number_keys ++ list_keys) text))
