-- The invariants of `answers_length`. Assumes nothing.
use mathlib.Core.Path.{◌≡◌}
use Prim.Native.Nat.{◌*◌, ◌≤◌}
use lib.ListN.{take}
use Rattle.round.specs.Layout.{answers_length}
use Rattle.round_lengths.proofs.answers_length.Given as goal

abbrev pub invariant-loop-challenge : goal.invariant-loop-challenge
invariant-loop-challenge l = (l.sum ≡ answers_length l.n (take l.challenge-index l.challenges)) × (l.sum ≤ 1032256 * l.challenge-index)
