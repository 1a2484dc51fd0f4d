-- When the producer's two calls write (document 01, "One round", third paragraph, and the producer's order after the sheet's), in conditions to hold against the paper; the
-- numbers beside them are those of the refusals that they exclude. Assumes nothing.
use Rattle.std.specs.Prelude.{◌≡◌, ℕ, ◌*◌, ◌≤◌, length}
use Rattle.codec.specs.Bytes.{Bytes}
use Rattle.scratch.specs.Call.{scratch_length}
use Rattle.round.specs.Layout.{head_length, answers_length}
use Rattle.commitment.specs.Parameters.{Parameters, parameters_of}
use Rattle.round.specs.Producer.{Material, MaterialSized}
use Rattle.round.specs.Suitable.{Suitable, Asked}
use Rattle.round_lengths.specs.Sheets.{ballots_in}
use Rattle.session_histories.specs.Conditions.{SheetTaken}

module _ (text : Bytes) (x : Material) where
  -- what the sheet gives, and how many ballots are lent
  abbrev P : Parameters
  P = parameters_of text

  abbrev m : ℕ
  m = ballots_in text x.ballots

  -- the first call, lent room for the first message and the claims
  pub record WritesFirst (head shares0 shares1 claims scratch : Bytes) : Type 0 where
    pub sheet : SheetTaken text  -- the sheet's own 1 to 5
    pub few : m ≤ 4096  -- 1
    pub sized : MaterialSized P m x  -- 1
    pub head_size : length head ≡ head_length P.N P.repeats  -- 1
    pub shares0_size : length shares0 ≡ 8 * P.N * m  -- 1
    pub shares1_size : length shares1 ≡ 8 * P.N * m  -- 1
    pub claims_size : length claims ≡ P.N * m  -- 1
    pub scratch_size : length scratch ≡ scratch_length  -- 1
    pub suitable : Suitable P m x  -- 5, 14, 12, 9, 15

  -- the second call, given a side and challenges, and lent room for the opening and the answers
  pub record WritesSecond (side : ℕ) (challenges opening answers scratch : Bytes) : Type 0 where
    pub sheet : SheetTaken text  -- the sheet's own 1 to 5
    pub few : m ≤ 4096  -- 1
    pub sized : MaterialSized P m x  -- 1
    pub challenges_size : length challenges ≡ P.repeats  -- 1
    pub opening_size : length opening ≡ 22 * P.N  -- 1
    pub answers_size : length answers ≡ answers_length P.N challenges  -- 1
    pub scratch_size : length scratch ≡ scratch_length  -- 1
    pub asked : Asked P m x side challenges  -- 5
    pub suitable : Suitable P m x  -- 5, 14, 12, 9, 15
