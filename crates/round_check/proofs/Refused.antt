-- A round that is not in range is refused by 5. Assumes nothing.
use mathlib.Core.Path.{◌≡◌, sym, ap, ◌∙◌}
use mathlib.Core.Bool.{Bool, false, not}
use Prim.Native.Nat.{ℕ}
use lib.ListN.{length}
use Rattle.codec.specs.Bytes.{Bytes, zeros}
use Rattle.codec.specs.Reply.{Reply, Refused}
use Rattle.commitment.specs.Parameters.{Parameters}
use Rattle.scratch.specs.Internal.{Judged}
use Rattle.scratch.proofs.Order.{refuses}
use Rattle.round.specs.Round.{Round, ranged, round_tests}

pub out_of_range : (P : Parameters) (m : ℕ) (x : Round) (b : Bool) (r : Reply) (before after : Bytes) → b ≡ ranged P m x → b ≡ false → r ≡ Refused 5 0 → after ≡ zeros (length before)
    → Judged (round_tests P m x) r before after
unfolding round_tests
out_of_range P m x b r before after e h k z = record { replied = k ∙ refuses 5 0 _ _ (ap not (sym e ∙ h)); cleared = z }
