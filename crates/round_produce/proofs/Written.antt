-- What a call comes to, from its tests and, where they are passed, from its writing. Assumes nothing.
use mathlib.Core.Path.{◌≡◌, sym, ap, ◌∙◌}
use Prim.Native.Nat.{ℕ}
use lib.ListN.{length, length-replicate}
use Rattle.codec.specs.Bytes.{Bytes, zeros}
use Rattle.codec.specs.Reply.{Reply, Taken, Refused}
use Rattle.sheet_numbers.specs.declared.Numbers.{Numbers}
use Rattle.scratch.specs.Call.{zeroized}
use Rattle.scratch.proofs.Zeroizing.{zeroized_taken, leaves_taken, leaves_refused}
use Rattle.commitment.specs.Parameters.{Parameters, parameters}
use Rattle.round.specs.Producer.{Material, produced_opening, produced_answers}
use Rattle.round.specs.Writes.{FirstRoom, first_room, SecondRoom, second_room}
use Rattle.round.specs.Internal.{FirstProduced, SecondProduced}
use Rattle.round_lengths.specs.Calls.{count_of, first_tests, second_tests}
use Rattle.round_produce.specs.Internal.{Tested, FirstWritten, SecondWritten}

-- scratch that is zeroized by the tests of a call and zeroed by its writing
twice : (r : Reply) (w w1 w2 : Bytes) → r ≡ Taken → w1 ≡ zeroized r w → w2 ≡ zeros (length w1) → w2 ≡ zeroized r w
twice r w w1 w2 e f g = g ∙ ap zeros (ap length (f ∙ zeroized_taken r w e) ∙ length-replicate (length w) 0) ∙ sym (zeroized_taken r w e)

-- ---- the first call

module _ (P : Parameters) (x : Material) (room : FirstRoom) {r : Reply} {w : Bytes} (t : Tested (first_tests P x room) r room.scratch w) where
  abbrev tested : FirstRoom
  tested = first_room room.head room.shares0 room.shares1 room.claims w

  pub first_taken : {after : FirstRoom} → r ≡ Taken → FirstProduced P (count_of P.N x.ballots) x tested after → FirstWritten P x room r after
  first_taken {after} e f = record {
    replied = t.replied;
    left = record { head = f.head ∙ leaves_taken r _ e; shares0 = f.shares0 ∙ leaves_taken r _ e; shares1 = f.shares1 ∙ leaves_taken r _ e; claims = f.claims ∙ leaves_taken r _ e };
    cleared = twice r room.scratch w after.scratch e t.cleared f.cleared;
  }

  pub first_refused : {i j : ℕ} → r ≡ Refused i j → FirstWritten P x room r tested
  first_refused e = record {
    replied = t.replied;
    left = record { head = leaves_refused r _ _ _ e; shares0 = leaves_refused r _ _ _ e; shares1 = leaves_refused r _ _ _ e; claims = leaves_refused r _ _ _ e };
    cleared = t.cleared;
  }

-- ---- the second call

module _ (k : Numbers) (s : Bytes) (x : Material) (side : ℕ) (challenges : Bytes) (room : SecondRoom) {r : Reply} {w : Bytes} (t : Tested (second_tests (parameters k s) x side challenges room) r room.scratch w) where
  abbrev tried : SecondRoom
  tried = second_room room.opening room.answers w

  pub second_taken : {after : SecondRoom} → r ≡ Taken → SecondProduced k x.secrets x.s0 x.e0 x.vectors x.permutations x.salts side challenges tried after
      → SecondWritten (parameters k s) x side challenges room r after
  unfolding produced_opening produced_answers
  second_taken {after} e f = record {
    replied = t.replied;
    left = record { opening = f.opening ∙ leaves_taken r _ e; answers = f.answers ∙ leaves_taken r _ e };
    cleared = twice r room.scratch w after.scratch e t.cleared f.cleared;
  }

  pub second_refused : {i j : ℕ} → r ≡ Refused i j → SecondWritten (parameters k s) x side challenges room r tried
  second_refused e = record { replied = t.replied; left = record { opening = leaves_refused r _ _ _ e; answers = leaves_refused r _ _ _ e }; cleared = t.cleared }
