-- "Given the sheet and ballots it was written for, the producer's round meets none of 5 to 13, in any session" (document 01, the paragraph on demand 3's last sentence), over
-- the exported check of whatever bytes. Assumes nothing.
use Rattle.std.specs.Prelude.{◌≡◌, ◌≢◌, ℕ}
use Rattle.codec.specs.Bytes.{Bytes, Octets}
use Rattle.codec.specs.Reply.{first, Reply, Taken, Refused}
use Rattle.sheet.specs.Sheet.{order}
use Rattle.round.specs.Producer.{Material}
use Rattle.round_lengths.specs.Sheets.{ballots_in}
use Rattle.commitment.specs.Parameters.{parameters_of}
use Rattle.session_image.specs.Image.{decode}
use Rattle.session.specs.Machine.{check}
use Rattle.session_image.specs.Images.{Host, host_reply, host_after}
use Rattle.session_histories.specs.Claims.{Produced}
use Rattle.session_check.specs.Stored.{Inputs}

-- taken, or refused for what comes before the round itself: 31, the lent sheet's own 1 to 5, 1 or 16
pub data BeforeTheRound (sheet : Bytes) : Reply → Type 0 where
  accepted : BeforeTheRound sheet Taken
  not_due : BeforeTheRound sheet (Refused 31 0)
  sheet's : {number place : ℕ} → first (order sheet) ≡ Refused number place → BeforeTheRound sheet (Refused number place)
  length : BeforeTheRound sheet (Refused 1 0)
  differs : BeforeTheRound sheet (Refused 16 0)

-- a check of any image that is lent what the producer makes of material for the lent sheet and as many ballots as are lent, for the side and the challenges that the seed in the
-- image draws for the round: the round itself is never refused, and never ends the session, that is, a check that is not taken changes nothing
abbrev pub AnySession : Type 0
AnySession = (h : Host) (round : ℕ) (x : Inputs) (material : Material)
    → Produced (parameters_of x.sheet) (ballots_in x.sheet x.ballots) material (decode h.image).seed round x
    → BeforeTheRound x.sheet (host_reply (check round x) h)
    × (Octets h.image → host_reply (check round x) h ≢ Taken → host_after (check round x) h ≡ h)
