-- The invariants of `extend`. Assumes nothing.
use Rattle.ring_transform.specs.Internal.{Powers}
use Rattle.ring_transform.proofs.extend.Given as goal

abbrev pub invariant-loop-k : goal.invariant-loop-k
invariant-loop-k l = Powers l.q l.w l.k l.p
