-- The invariants of `mask`. Assumes nothing.
use lib.ListN.{length}
use Rattle.vector.specs.Vector.{vector, ternaries, add}
use Rattle.vector.specs.Permutation.{extend}
use Rattle.vector.proofs.Gathers.{Laying}
use Rattle.vector.proofs.mask.Given as goal

abbrev pub invariant-loop-i : goal.invariant-loop-i
invariant-loop-i l = Laying l.initial.out l.at (add l.q (ternaries l.q (extend (length l.x) l.x)) (vector l.r)) l.out l.i
