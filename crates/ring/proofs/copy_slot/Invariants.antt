-- The invariants of `copy_slot`. Assumes nothing.
use Rattle.std.proofs.Common.{◌≡◌}
use Rattle.ring.proofs.Filling.{filled}
use Rattle.ring.specs.Slots.{slot}
use Rattle.ring.proofs.copy_slot.Given as goal

abbrev pub invariant-loop-i : goal.invariant-loop-i
invariant-loop-i l = l.work ≡ filled l.initial.work l.to (slot l.initial.work l.from) l.i
