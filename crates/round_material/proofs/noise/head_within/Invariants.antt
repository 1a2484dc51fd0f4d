-- The invariants of `head_within`. Assumes nothing.
use Prim.Native.Nat.{ℕ, suc, ◌<◌}
use lib.IntN.{nat_abs}
use Rattle.ring.specs.Slots.{poly}
use Rattle.bgv.specs.Scheme.{centred}
use Rattle.round_material.proofs.noise.head_within.Given as goal

abbrev pub invariant-loop-i : goal.invariant-loop-i
invariant-loop-i l = (k : ℕ) → k < l.i → nat_abs (centred l.q (poly l.work) k) < suc l.bound
