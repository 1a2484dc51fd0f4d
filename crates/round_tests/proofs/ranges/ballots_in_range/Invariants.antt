-- The invariants of `ballots_in_range`. Assumes nothing.
use mathlib.Core.Path.{◌≡◌}
use mathlib.Core.Bool.{true}
use Prim.Native.Nat.{ℕ, ◌*◌, ◌<◌}
use Rattle.codec.specs.Lists.{list, all_below}
use Rattle.round.specs.Layout.{u_at}
use Rattle.round_tests.proofs.ranges.ballots_in_range.Given as goal

abbrev pub invariant-loop-j : goal.invariant-loop-j
invariant-loop-j l = (i : ℕ) → i < l.j → all_below l.q (list (2 * l.n) (u_at l.n l.ballots i)) ≡ true
