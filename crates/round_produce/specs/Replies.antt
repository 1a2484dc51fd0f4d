-- The producer's two calls over the sheet and lent bytes: their replies, which are the sheet's own order and then that of the call (document 01, "Refused because of the
-- state"), and what they leave in the room that they are lent. Assumes nothing.
use Rattle.std.specs.Prelude.{◌≡◌, ◌++◌, ℕ}
use Rattle.codec.specs.Bytes.{Bytes}
use Rattle.codec.specs.Reply.{first, Reply}
use Rattle.sheet.specs.Sheet.{order}
use Rattle.scratch.specs.Call.{zeroized}
use Rattle.round.specs.Producer.{Material}
use Rattle.round.specs.Writes.{FirstRoom, SecondRoom}
use Rattle.round_lengths.specs.Calls.{first_tests, second_tests}
use Rattle.commitment.specs.Parameters.{parameters_of}
use Rattle.round_produce.specs.First.{FirstLeft}
use Rattle.round_produce.specs.Second.{SecondLeft}

unfoldable pub first_reply : (text : Bytes) → Material → FirstRoom → Reply
first_reply text x room = first (order text ++ first_tests (parameters_of text) x room)

pub record FirstCalled (text : Bytes) (x : Material) (before : FirstRoom) (reply : Reply) (after : FirstRoom) : Type 0 where
  pub replied : reply ≡ first_reply text x before
  pub left : FirstLeft (parameters_of text) x before reply after
  pub cleared : after.scratch ≡ zeroized reply before.scratch

unfoldable pub second_reply : (text : Bytes) → Material → (side : ℕ) (challenges : Bytes) → SecondRoom → Reply
second_reply text x side challenges room = first (order text ++ second_tests (parameters_of text) x side challenges room)

pub record SecondCalled (text : Bytes) (x : Material) (side : ℕ) (challenges : Bytes) (before : SecondRoom) (reply : Reply) (after : SecondRoom) : Type 0 where
  pub replied : reply ≡ second_reply text x side challenges before
  pub left : SecondLeft (parameters_of text) x side challenges before reply after
  pub cleared : after.scratch ≡ zeroized reply before.scratch
