-- The invariants of `sums_agree`. Assumes nothing.
use mathlib.Core.Path.{◌≡◌}
use Prim.Native.Nat.{ℕ, ◌<◌}
use lib.ListN.{get_or}
use Rattle.vector.specs.Vector.{vector, ternaries, add}
use Rattle.vector.specs.Permutation.{entries, apply}
use Rattle.round_collision.proofs.sums_agree.Given as goal

abbrev pub invariant-loop-i : goal.invariant-loop-i
invariant-loop-i l = (k : ℕ) → k < l.i → get_or (add l.q (ternaries l.q l.w) (vector l.t)) k 0 ≡ get_or (apply (entries l.p) (vector l.u)) k 0
