-- The invariants of `quotients_within`. Assumes nothing.
use Prim.Native.Nat.{ℕ, suc, ◌<◌}
use lib.IntN.{nat_abs}
use Rattle.codec.specs.Bytes.{Bytes}
use Rattle.modular.specs.Modulo.{centre}
use Rattle.modular.specs.Division.{divide}
use Rattle.ring.specs.Slots.{poly}
use Rattle.bgv.specs.Scheme.{Wholes}
use Rattle.bgv.proofs.quotients_within.Given as goal

abbrev pub quotients : (q p : ℕ) → Bytes → Wholes
quotients q p w k = centre q (divide q p (poly w k))

abbrev pub invariant-loop-i : goal.invariant-loop-i
invariant-loop-i l = (k : ℕ) → k < l.i → nat_abs (quotients l.q l.p l.work k) < suc l.bound
