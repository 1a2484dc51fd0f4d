-- What the contracts of inner functions and the proofs go by: no exported contract and no claim cites this file. Assumes nothing.
use Rattle.std.specs.Prelude.{◌≡◌, true, ℕ, ◌*◌, ◌≤◌, ◌<◌, length}
use Rattle.codec.specs.Bytes.{Bytes}
use Rattle.stern.specs.Shortness.{answer_length, in_range}
use Rattle.round.specs.Layout.{ballot_length}
use Rattle.round.specs.Extractor.{Openings}
use Rattle.round.specs.Internal.{Batch, SharesLent}
use Rattle.round_side.specs.Internal.{Opened, Head}

-- ---- what the inner functions of the extractor's tests are given: two openings and three answers that passed the tests of lengths and ranges

-- the answer to a challenge
pub record AnswerLent (q n challenge : ℕ) (answer : Bytes) : Type 0 where
  pub sized : length answer ≡ answer_length n challenge
  pub ranged : in_range q n challenge answer ≡ true

-- the lengths that the tests of ranges go by
pub record OpeningsSized (n count : ℕ) (x : Openings) : Type 0 where
  pub ballots : length x.ballots ≡ ballot_length n * count
  pub head : 80 * n ≤ length x.head
  pub opening0 : length x.opening0 ≡ 22 * n
  pub opening1 : length x.opening1 ≡ 22 * n
  pub answer1 : length x.answer1 ≡ answer_length n 1
  pub answer2 : length x.answer2 ≡ answer_length n 2
  pub answer3 : length x.answer3 ≡ answer_length n 3

-- all that is lent to the extractor
pub record OpeningsInRange (q n count repeats : ℕ) (x : Openings) : Type 0 where
  pub repetition : x.repetition < repeats
  pub batch : Batch q n count x.ballots x.claims
  pub head : Head q n repeats x.head
  pub shares0 : SharesLent q n count x.shares0
  pub shares1 : SharesLent q n count x.shares1
  pub opening0 : Opened q n x.opening0
  pub opening1 : Opened q n x.opening1
  pub answer1 : AnswerLent q n 1 x.answer1
  pub answer2 : AnswerLent q n 2 x.answer2
  pub answer3 : AnswerLent q n 3 x.answer3
