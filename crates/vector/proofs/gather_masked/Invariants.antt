-- The invariants of `gather_masked`. Assumes nothing.
use lib.ListN.{length}
use Rattle.vector.specs.Vector.{vector, ternaries, add}
use Rattle.vector.specs.Permutation.{entries, apply, extend}
use Rattle.vector.proofs.Gathers.{Laying}
use Rattle.vector.proofs.gather_masked.Given as goal

abbrev pub invariant-loop-i : goal.invariant-loop-i
invariant-loop-i l = Laying l.initial.work l.at (apply (entries l.p) (add l.q (ternaries l.q (extend (length l.x) l.x)) (vector l.r))) l.work l.i
