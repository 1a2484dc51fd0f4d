-- The invariants of `butterflies_back`. Assumes nothing.
use Prim.Native.Nat.{◌+◌, ◌*◌}
use Rattle.montgomery.specs.Internal.{radix_inverse}
use Rattle.ring.specs.Slots.{slot}
use Rattle.ring_transform.specs.Internal.{back_sum, back_twiddled}
use Rattle.ring_transform.proofs.Pairs.{Halves}
use Rattle.ring_transform.proofs.butterflies_back.Given as goal

abbrev pub invariant-loop-j : goal.invariant-loop-j
invariant-loop-j l =
    Halves l.initial.work l.at l.m (λ k. back_sum l.q (slot l.initial.work l.at k) (slot l.initial.work l.at (l.m + k))) (λ k. back_twiddled l.q (l.y * radix_inverse l.q) (slot l.initial.work l.at k) (slot l.initial.work l.at (l.m + k))) l.work l.j
