-- The invariants of `scaled`. Assumes nothing.
use Prim.Native.Nat.{◌*◌, ◌%◌}
use Rattle.montgomery.specs.Internal.{radix_inverse}
use Rattle.ring.proofs.Filling.{Filling}
use Rattle.ring.specs.Slots.{slot}
use Rattle.ring_transform.proofs.scaled.Given as goal

abbrev pub invariant-loop-k : goal.invariant-loop-k
invariant-loop-k l = Filling l.initial.work l.at (λ j. l.h * radix_inverse l.q * slot l.initial.work l.at j % l.q) l.n l.work l.k
