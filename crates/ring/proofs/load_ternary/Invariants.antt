-- The invariants of `load_ternary`. Assumes nothing.
use Rattle.std.proofs.Common.{◌≡◌}
use Rattle.ring.proofs.Filling.{filled}
use Rattle.ring.specs.Ternary.{ternary}
use Rattle.ring.proofs.load_ternary.Given as goal

abbrev pub invariant-loop-i : goal.invariant-loop-i
invariant-loop-i l = l.work ≡ filled l.initial.work l.at (ternary l.q l.t) l.i
