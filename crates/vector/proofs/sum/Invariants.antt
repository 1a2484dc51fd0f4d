-- The invariants of `sum`. Assumes nothing.
use Rattle.vector.specs.Vector.{vector, ternaries, add}
use Rattle.vector.proofs.Gathers.{Laying}
use Rattle.vector.proofs.sum.Given as goal

abbrev pub invariant-loop-i : goal.invariant-loop-i
invariant-loop-i l = Laying l.initial.work l.at (add l.q (ternaries l.q l.w) (vector l.t)) l.work l.i
