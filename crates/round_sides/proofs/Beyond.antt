-- A repetition that the first message does not have is out of range. Assumes nothing.
use mathlib.Core.Path.{◌≡◌}
use mathlib.Core.Bool.{false}
use Prim.Native.Nat.{ℕ, ◌≤◌}
use borrow.Author.Tests.{le-ltb}
use Rattle.commitment.specs.Parameters.{Parameters}
use Rattle.round.specs.Extractor.{Openings, lent_ranged}

pub none_such : (P : Parameters) (m : ℕ) (x : Openings) → P.repeats ≤ x.repetition → lent_ranged P m x ≡ false
unfolding lent_ranged
none_such P m x h = rw (le-ltb x.repetition P.repeats h)
