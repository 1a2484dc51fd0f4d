-- Document 01's own sheet is taken, and what is computed from it. Its examples I and J are rows of crates/bgv/specs/Examples.antt. Assumes nothing.
use mathlib.Core.Path.{◌≡◌, refl}
use mathlib.Core.List.{[], ◌∷◌}
use Rattle.codec.specs.Lists.{all_below}
use Rattle.codec.specs.Reply.{first}
use Rattle.sheet_numbers.specs.Plain.{plain}
use Rattle.sheet_numbers.specs.Bounds.{noise_bound, mask_bound, unknown_count, most, least, power}
use Rattle.sheet_numbers.specs.Rules.{any, outside, unsound}
use Rattle.sheet_lines.specs.Form.{decimal, listed, lines}
use Rattle.sheet.specs.Form.{written}
use Rattle.sheet_lines.specs.Reader.{digit, step, values, line, rows}
use Rattle.sheet.specs.Reader.{formed, sheet_of}
use Rattle.sheet.specs.Sheet.{unfit, reading, Taken}
use Rattle.sheet.specs.Examples.{small_numbers, small, text}

as_written : written (small 97 (3 ∷ 7 ∷ 94 ∷ 92 ∷ [])) ≡ text
unfolding written lines listed decimal
as_written = refl

as_read : reading text ≡ Taken (small_numbers 97)
unfolding reading first formed sheet_of rows line values step digit any outside unsound plain unfit all_below power least most
as_read = refl

-- its D, B and L
bounds : noise_bound 2 4 ∷ mask_bound 2 4 0 ∷ unknown_count 4 ∷ [] ≡ 19 ∷ 4 ∷ 56 ∷ []
bounds = refl

-- document 01: 10 rounds give 17, 128 give 218
repeats : least 1 ∷ least 10 ∷ least 128 ∷ [] ≡ 1 ∷ 17 ∷ 218 ∷ []
unfolding least most
repeats = refl
