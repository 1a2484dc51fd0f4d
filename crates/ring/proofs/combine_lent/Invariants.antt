-- The invariants of `combine_lent`. Assumes nothing.
use Rattle.std.proofs.Common.{◌≡◌}
use Rattle.ring.proofs.Filling.{filled}
use Rattle.ring.specs.Internal.{sign}
use Rattle.ring.specs.Poly.{plus, scale, modulo}
use Rattle.ring.specs.Slots.{poly, slot}
use Rattle.ring.proofs.combine_lent.Given as goal

abbrev pub invariant-loop-i : goal.invariant-loop-i
invariant-loop-i l = l.work ≡ filled l.initial.work l.at (modulo l.q (plus (slot l.initial.work l.at) (scale (sign l.q l.minus) (poly l.a)))) l.i
