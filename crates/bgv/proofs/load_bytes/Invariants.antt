-- The invariants of `load_bytes`. Assumes nothing.
use mathlib.Core.Path.{◌≡◌}
use Rattle.ring.proofs.Filling.{filled}
use Rattle.scratch.specs.Call.{coefficients}
use Rattle.bgv.proofs.load_bytes.Given as goal

abbrev pub invariant-loop-i : goal.invariant-loop-i
invariant-loop-i l = l.work ≡ filled l.initial.work l.at (coefficients l.m) l.i
