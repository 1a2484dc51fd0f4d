-- What the contracts of inner functions and the proofs go by: no exported contract and no claim cites this file. Assumes nothing.
use Rattle.std.specs.Prelude.{◌≡◌, ◌≤◌, ℕ}
use Rattle.codec.specs.Bytes.{Bytes}
use Rattle.codec.specs.Reply.{first, Reply}
use Rattle.sheet_numbers.specs.Ranges.{NumbersInRange}
use Rattle.scratch.specs.Call.{zeroized}
use Rattle.round.specs.Round.{round_tests}
use Rattle.session_check.specs.declared.stored.Stored.{Stored}
use Rattle.session_check.specs.Stored.{Inputs, drawn_round, lent_tests}
use Rattle.session_check.specs.declared.Verdict as code
use Rattle.session_check.specs.Check.{early_tests, late_tests}
unfoldable pub use Rattle.session_check.specs.Stored.{inputs_sized, stored_tests}
use Rattle.session_check.specs.declared.Verdict.TheVariants as verdicts
use Rattle.codec.specs.Refusal.{number_of_refusal, place_of_refusal}
use Rattle.codec.specs.declared.Refusal.{Refusal}
use Rattle.codec.specs.Reply as reply
use Rattle.commitment.specs.Parameters.{Parameters}

-- what a check comes to: stopped before the round was looked at, failed by the round itself, both with a number and a place; or passed
pub data Verdict : Type 0 where
  Stopped : ℕ → ℕ → Verdict
  Failed : ℕ → ℕ → Verdict
  Passed : Verdict

-- what a verdict of the code stands for, by the number and the place of what refuses
abbrev pub verdict_by : {E : Type 0} → (E → ℕ) → (E → ℕ) → code.Verdict E → Verdict
verdict_by number place (verdicts.Stopped why) = Stopped (number why) (place why)
verdict_by number place (verdicts.Failed why) = Failed (number why) (place why)
verdict_by number place verdicts.Passed = Passed

abbrev pub as_verdict : code.Verdict Refusal → Verdict
as_verdict = verdict_by number_of_refusal place_of_refusal

-- what a check comes to, from the replies of the tests before the round and of those of the round: stopped before the round was looked at, failed by the round itself, or accepted
abbrev pub verdict : (early late : Reply) → Verdict
verdict (reply.Refused number place) late = Stopped number place
verdict reply.Taken (reply.Refused number place) = Failed number place
verdict reply.Taken reply.Taken = Passed

-- its number and place
abbrev pub reply_of_verdict : Verdict → Reply
reply_of_verdict (Stopped number place) = reply.Refused number place
reply_of_verdict (Failed number place) = reply.Refused number place
reply_of_verdict Passed = reply.Taken

-- what a check comes to
abbrev pub outcome : Stored → Inputs → Verdict
outcome s x = verdict (first (early_tests s x)) (first (late_tests s x))

-- the verdict, and scratch, which is zeroed unless the verdict is 1 or 31
abbrev pub CheckMade : Stored → Inputs → Verdict → (scratch : Bytes) → Type 0
CheckMade s x v scratch = (v ≡ outcome s x) × (scratch ≡ zeroized (reply_of_verdict v) x.scratch)

-- ---- what the parts of the check answer and leave (specs/Check.antt)

-- what a check comes to once the sheet is taken, with the parameters of its round
abbrev pub taken_outcome : Parameters → Stored → Inputs → Verdict
taken_outcome P s x = verdict (first (lent_tests s x)) (first (round_tests P s.closed (drawn_round s x)))

abbrev pub TakenChecked : Parameters → Stored → Inputs → Verdict → (scratch : Bytes) → Type 0
TakenChecked P s x v scratch = (v ≡ taken_outcome P s x) × (scratch ≡ zeroized (reply_of_verdict v) x.scratch)

-- numbers and a count as a valid session has them
abbrev pub Within : Stored → Type 0
Within s = NumbersInRange s.numbers × (s.closed ≤ 4096)
