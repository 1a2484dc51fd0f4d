-- The invariants of `mark`. Assumes nothing.
use Rattle.vector.specs.Permutation.{entries}
use Rattle.vector.proofs.Marks.{Marked}
use Rattle.vector.proofs.tests.mark.Given as goal

abbrev pub invariant-loop-i : goal.invariant-loop-i
invariant-loop-i l = Marked (entries l.p) l.n l.initial.work l.at l.work l.i
