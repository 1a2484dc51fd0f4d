-- The invariants of `butterflies`. Assumes nothing.
use Prim.Native.Nat.{◌+◌, ◌*◌}
use Rattle.montgomery.specs.Internal.{radix_inverse}
use Rattle.ring.specs.Slots.{slot}
use Rattle.ring_transform.specs.Internal.{plus_twiddled, minus_twiddled}
use Rattle.ring_transform.proofs.Pairs.{Halves}
use Rattle.ring_transform.proofs.butterflies.Given as goal

abbrev pub invariant-loop-j : goal.invariant-loop-j
invariant-loop-j l =
    Halves l.initial.work l.at l.m (λ k. plus_twiddled l.q (l.z * radix_inverse l.q) (slot l.initial.work l.at k) (slot l.initial.work l.at (l.m + k))) (λ k. minus_twiddled l.q (l.z * radix_inverse l.q) (slot l.initial.work l.at k) (slot l.initial.work l.at (l.m + k))) l.work l.j
