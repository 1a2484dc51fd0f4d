-- The invariants of `dot`. Assumes nothing.
use lib.ListN.{get_or}
use Prim.Native.Nat.{◌-◌, ◌≤◌}
use Rattle.ring_product.specs.Internal.{Digits}
use Rattle.ring.specs.Slots.{slot}
use Rattle.ring_product.proofs.dot.Given as goal

abbrev pub invariant-loop-done : goal.invariant-loop-done
invariant-loop-done l = (l.done ≤ l.n) × Digits (slot l.w l.x) (slot l.w l.y) l.done (get_or l.d 0 0) (get_or l.d 1 0) (get_or l.d 2 0) (get_or l.d 3 0)

abbrev pub decreases-loop-done : goal.decreases-loop-done
decreases-loop-done l = l.n - l.done
