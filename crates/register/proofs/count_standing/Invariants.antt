-- The invariants of `count_standing`. Assumes nothing.
use mathlib.Core.Path.{◌≡◌}
use Prim.Native.Nat.{◌≤◌}
use lib.ListN.{length}
use Rattle.register.specs.Register as def
use Rattle.register.proofs.count_standing.Given as goal

abbrev pub invariant-loop-i : goal.invariant-loop-i
invariant-loop-i l = (l.count ≡ length (def.standing l.reg l.i)) × (l.count ≤ l.i)
