-- The invariants of `gather`. Assumes nothing.
use Rattle.vector.specs.Vector.{vector}
use Rattle.vector.specs.Permutation.{entries, apply}
use Rattle.vector.proofs.Gathers.{Laying}
use Rattle.vector.proofs.gather.Given as goal

abbrev pub invariant-loop-i : goal.invariant-loop-i
invariant-loop-i l = Laying l.initial.work l.at (apply (entries l.p) (vector l.x)) l.work l.i
