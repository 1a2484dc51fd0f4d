-- The invariants of `scale_slot`. Assumes nothing.
use Rattle.std.proofs.Common.{◌≡◌}
use Rattle.ring.proofs.Filling.{filled}
use Rattle.ring.specs.Poly.{scale, modulo}
use Rattle.ring.specs.Slots.{slot}
use Rattle.ring.proofs.scale_slot.Given as goal

abbrev pub invariant-loop-i : goal.invariant-loop-i
invariant-loop-i l = l.work ≡ filled l.initial.work l.at (modulo l.q (scale l.p (slot l.initial.work l.at))) l.i
