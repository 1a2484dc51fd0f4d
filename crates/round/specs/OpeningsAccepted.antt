-- What the extractor takes (document 01, the extractor's paragraph: "the openings and answers, tested as in a check, are accepted"), in the propositions of an accepted
-- round (specs/Accepted.antt); the numbers beside them are those of the refusals that they exclude. The lengths (1) stand apart: `Lent`, specs/Extractor.antt. Assumes nothing.
use Rattle.std.specs.Prelude.{ℕ, ◌<◌}
use Rattle.commitment.specs.Parameters.{Parameters}
use Rattle.round.specs.Accepted.{Answered, AnswerRanged, OpeningRanged, MessageRanged, KeySplits, SideOpened}
use Rattle.round.specs.Extractor.{Openings, pairs, digests, open0, open1}

-- for the parameters of a sheet, and m ballots
module _ (P : Parameters) (m : ℕ) (x : Openings) where
  open P use {q, N, repeats, k}

  -- 5: the repetition is one of the sheet's, and all coefficients, claims and ternary bytes are in range
  pub record OpeningsRanged : Type 0 where
    pub repetition : x.repetition < repeats
    pub message : MessageRanged P m x.ballots x.claims x.head x.shares0 x.shares1
    pub opening0 : OpeningRanged P m (open0 P m x)
    pub opening1 : OpeningRanged P m (open1 P m x)
    pub answer1 : AnswerRanged q N 1 x.answer1
    pub answer2 : AnswerRanged q N 2 x.answer2
    pub answer3 : AnswerRanged q N 3 x.answer3

  pub record OpeningsAccepted : Type 0 where
    pub in_range : OpeningsRanged  -- 5
    pub key_splits : KeySplits P m x.head  -- 6
    pub side0 : SideOpened P m x.ballots x.claims x.head x.shares0 x.shares1 0 (open0 P m x)  -- 7, 8, 12, 13
    pub side1 : SideOpened P m x.ballots x.claims x.head x.shares0 x.shares1 1 (open1 P m x)  -- 7, 8, 12, 13
    -- 9, 10, 11: the three answers, against the digests of the lent repetition
    pub answered1 : Answered q N k (pairs P m x) (digests P m x) 1 x.answer1
    pub answered2 : Answered q N k (pairs P m x) (digests P m x) 2 x.answer2
    pub answered3 : Answered q N k (pairs P m x) (digests P m x) 3 x.answer3
