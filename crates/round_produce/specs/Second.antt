-- What the producer's second call leaves in the room that it is lent. Assumes nothing.
use Rattle.std.specs.Prelude.{◌≡◌, ℕ}
use Rattle.codec.specs.Bytes.{Bytes}
use Rattle.codec.specs.Reply.{leaves, Reply}
use Rattle.commitment.specs.Parameters.{Parameters}
use Rattle.round.specs.Producer.{Material, produced_opening, produced_answers}
use Rattle.round.specs.Writes.{SecondRoom}
use Rattle.round_lengths.specs.Calls.{count_of}

module _ (P : Parameters) (x : Material) (side : ℕ) (challenges : Bytes) (before : SecondRoom) (reply : Reply) (after : SecondRoom) where
  abbrev m : ℕ
  m = count_of P.N x.ballots

  -- the opening and the answers, unless the call is refused
  pub record SecondLeft : Type 0 where
    pub opening : after.opening ≡ leaves reply (produced_opening P m x side) before.opening
    pub answers : after.answers ≡ leaves reply (produced_answers P m x challenges) before.answers
