-- What the contracts of inner functions and the proofs go by: no exported contract and no claim cites this file. Assumes nothing.
use Rattle.std.specs.Prelude.{◌≡◌, Bool, true, ◌&&◌, List, ◌∷◌, ℕ, length}
use Rattle.codec.specs.Bytes.{Bytes}
use Rattle.codec.specs.Reply.{Test, first, Reply}
use Rattle.scratch.specs.Call.{zeroized, scratch_length}
use Rattle.commitment.specs.Parameters.{Parameters}
use Rattle.round.specs.Producer.{Material, producer_tests}
use Rattle.round.specs.Writes.{FirstRoom, SecondRoom}
use Rattle.round_lengths.specs.Calls.{count_of, lengths_test, material_sized, first_tests, second_tests}
use Rattle.round_produce.specs.First.{FirstLeft}
use Rattle.round_produce.specs.Second.{SecondLeft}

-- ---- what the tests of a call answer and leave: its reply, and scratch, as the call leaves it

pub record Tested (tests : List Test) (reply : Reply) (scratch scratch' : Bytes) : Type 0 where
  pub replied : reply ≡ first tests
  pub cleared : scratch' ≡ zeroized reply scratch

-- the order of both calls: lengths, where `fits` says whether what a call is lent beside the material has its own; then the material's tests, where `asked` says whether what it is given beside it is in range
abbrev pub call_tests : (P : Parameters) (x : Material) (fits asked : Bool) → List Test
call_tests P x fits asked = let m = count_of P.N x.ballots in lengths_test m (material_sized P.N P.repeats m x && fits) ∷ producer_tests P m x asked

-- scratch has its length where what a call is lent fits
pub record ScratchFits (fits : Bool) (scratch : Bytes) : Type 0 where
  pub sized : fits ≡ true → length scratch ≡ scratch_length

-- ---- what the two calls answer and leave once the sheet is taken

pub record FirstWritten (P : Parameters) (x : Material) (before : FirstRoom) (reply : Reply) (after : FirstRoom) : Type 0 where
  pub replied : reply ≡ first (first_tests P x before)
  pub left : FirstLeft P x before reply after
  pub cleared : after.scratch ≡ zeroized reply before.scratch

pub record SecondWritten (P : Parameters) (x : Material) (side : ℕ) (challenges : Bytes) (before : SecondRoom) (reply : Reply) (after : SecondRoom) : Type 0 where
  pub replied : reply ≡ first (second_tests P x side challenges before)
  pub left : SecondLeft P x side challenges before reply after
  pub cleared : after.scratch ≡ zeroized reply before.scratch
