-- The invariants of `mirror`. Assumes nothing.
use Prim.Native.Nat.{◌-◌, ◌*◌}
use Rattle.ring.proofs.Filling.{Filling}
use Rattle.ring.specs.Poly.{turn, modulo}
use Rattle.ring.specs.Slots.{poly}
use Rattle.ring_product.proofs.mirror.Given as goal

abbrev pub invariant-loop-j : goal.invariant-loop-j
invariant-loop-j l = Filling l.initial.work l.room (modulo l.q (turn l.q l.n (poly l.a) (l.n - 1))) (2 * l.n) l.work l.j
