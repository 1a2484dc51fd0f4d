-- The invariants of `bounded`. Assumes nothing.
use Prim.Native.Nat.{ℕ, suc, ◌<◌}
use lib.IntN.{nat_abs}
use Rattle.bgv.specs.Scheme.{lent_mask}
use Rattle.bgv.proofs.bounded.Given as goal

abbrev pub invariant-loop-i : goal.invariant-loop-i
invariant-loop-i l = (k : ℕ) → k < l.i → nat_abs (lent_mask l.mask k) < suc l.bound
