-- The invariant of `searched`. Assumes nothing.
use Prim.Native.Nat.{◌<◌}
use Rattle.ring_product.proofs.root.searched.Given as goal

abbrev pub invariant-loop : goal.invariant-loop
invariant-loop l = l.g < l.q
