-- When the extractor takes what it is lent (document 01, the extractor's paragraph and its order after the sheet's), in conditions to hold against the paper; the numbers
-- beside them are those of the refusals that they exclude. Assumes nothing.
use Rattle.std.specs.Prelude.{◌≡◌, ℕ, ◌*◌, ◌≤◌, length}
use Rattle.codec.specs.Bytes.{Bytes}
use Rattle.scratch.specs.Call.{scratch_length}
use Rattle.commitment.specs.Parameters.{Parameters, parameters_of}
use Rattle.round.specs.Extractor.{Openings, Lent}
use Rattle.round.specs.OpeningsAccepted.{OpeningsAccepted}
use Rattle.round_lengths.specs.Sheets.{ballots_in}
use Rattle.session_histories.specs.Conditions.{SheetTaken}

module _ (text : Bytes) (x : Openings) where
  -- what the sheet gives, and how many ballots are lent
  abbrev P : Parameters
  P = parameters_of text

  abbrev m : ℕ
  m = ballots_in text x.ballots

  -- with room for what it finds
  pub record TakesOpenings (out scratch : Bytes) : Type 0 where
    pub sheet : SheetTaken text  -- the sheet's own 1 to 5
    pub few : m ≤ 4096  -- 1
    pub lengths : Lent P m x  -- 1, and the head is bytes, as what is lent always is
    pub out_size : length out ≡ 24 * P.N  -- 1
    pub scratch_size : length scratch ≡ scratch_length  -- 1
    pub accepted : OpeningsAccepted P m x  -- 5, 6; by side 7, 8, 12, 13; by answer 9, 10, 11
