-- The invariants of `products`. Assumes nothing.
use Prim.Native.Nat.{◌+◌, ◌-◌, ◌*◌}
use Rattle.ring.proofs.Filling.{Filling}
use Rattle.ring.specs.Poly.{sum, modulo}
use Rattle.ring.specs.Slots.{slot}
use Rattle.ring_product.proofs.products.Given as goal

abbrev pub invariant-loop-k : goal.invariant-loop-k
invariant-loop-k l = Filling l.initial.work l.at (modulo l.q (λ j. sum l.n (λ i. slot l.initial.work l.room (2 * l.n + i) * slot l.initial.work l.room (l.n - 1 - j + i)))) l.n l.work l.k
