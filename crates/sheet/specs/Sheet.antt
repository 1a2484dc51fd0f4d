-- Document 01, "Sheet" and the refusals 1 to 5: which sheet is taken, and what is handed out of it. Assumes nothing.
use Rattle.std.specs.Prelude.{◌≡◌, Result, Ok, Err, Bool, not, ◌&&◌, ◌||◌, ℕ, ltb, eqb, length}
use mathlib.Core.List.{List, [], ◌∷◌, flat_map}
use Rattle.codec.specs.Bytes.{Bytes, words}
use Rattle.codec.specs.Reply.{Test, test, first, Reply}
use Rattle.codec.specs.Reply as reply
use Rattle.codec.specs.Refusal.{number_of_refusal, as_reply}
use Rattle.codec.specs.declared.Refusal.{Refusal}
use Rattle.codec.specs.Lists.{every, all_below}
use Rattle.sheet.specs.Form.{Sheet}
use Rattle.sheet.specs.Reader.{formed, sheet_of}
use Rattle.sheet_numbers.specs.Rules.{outside, unsound}
use Rattle.sheet_numbers.specs.declared.Numbers.{Numbers}

-- 5: a list of another count than n, or with a coefficient that is not below q
abbrev pub fits : ℕ → ℕ → List ℕ → Bool
fits n q xs = eqb (length xs) n && all_below q xs

abbrev pub lists : Sheet → List (List ℕ)
lists s = s.a ∷ s.b ∷ s.k1 ∷ s.k2 ∷ s.k3 ∷ []

unfoldable pub unfit : Sheet → Bool
unfit s = not (every (fits s.numbers.ring s.numbers.modulus) (lists s))

-- the order of a call that is lent the sheet, at its head; the sheet's own call has no more
abbrev pub order : Bytes → List Test
order text =
    test 1 0 (eqb (length text) 0 || ltb 262144 (length text))
    ∷ test 2 0 (not (formed text))
    ∷ test 3 0 (outside (sheet_of text).numbers)
    ∷ test 4 0 (unsound (sheet_of text).numbers)
    ∷ test 5 0 (unfit (sheet_of text))
    ∷ []

-- what is said of a text: its numbers, or document 01's number of the refusal
pub data Reading : Type 0 where
  Taken : Numbers → Reading
  Refused : ℕ → Reading

-- the reply that a reading stands for: document 01's number, 0 for a sheet that is taken; a sheet's refusal has no place
abbrev pub reply_of : Reading → Reply
reply_of (Taken k) = reply.Taken
reply_of (Refused n) = reply.Refused n 0

abbrev pub reading_by : Reply → Numbers → Reading
reading_by reply.Taken k = Taken k
reading_by (reply.Refused n place) k = Refused n

-- what is said of a text
unfoldable pub reading : Bytes → Reading
reading text = reading_by (first (order text)) (sheet_of text).numbers

-- what is said by a result of the code
abbrev pub as_reading : Result Numbers Refusal → Reading
as_reading (Ok k) = Taken k
as_reading (Err why) = Refused (number_of_refusal why)

-- a result says it, and names no place
abbrev pub ReadAs : Reading → Result Numbers Refusal → Type 0
ReadAs said result = (as_reading result ≡ said) × (as_reply result ≡ reply_of said)

-- a, b, k1, k2, k3 in 40N bytes, 8 to a coefficient
unfoldable pub polynomials : Bytes → Bytes
polynomials text = flat_map words (lists (sheet_of text))
