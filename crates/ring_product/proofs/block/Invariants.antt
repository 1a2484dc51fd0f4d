-- The invariants of `block`. Assumes nothing.
use Rattle.ring_product.specs.Internal.{Columns}
use Rattle.ring.specs.Slots.{slot}
use Rattle.ring_product.proofs.block.Given as goal

abbrev pub invariant-loop-j : goal.invariant-loop-j
invariant-loop-j l = Columns (slot l.w l.x) (slot l.w l.y) l.j l.lo l.mid l.hi
