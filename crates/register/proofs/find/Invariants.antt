-- The invariants of `find`. Assumes nothing.
use mathlib.Core.Path.{◌≡◌}
use Rattle.register.specs.Register as def
use Rattle.register.proofs.find.Given as goal

abbrev pub invariant-loop-i : goal.invariant-loop-i
invariant-loop-i l = def.find l.reg l.mark l.i ≡ l.i
