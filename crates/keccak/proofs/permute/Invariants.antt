-- The invariants of `permute`. Assumes nothing.
use mathlib.Core.Path.{◌≡◌}
use Prim.Native.Nat.{◌*◌}
use Rattle.keccak.specs.Keccak.{rounds}
use Rattle.keccak.specs.Internal.{flipped, six}
use Rattle.keccak.proofs.permute.Given as goal

-- t has the six lanes of 4 k rounds complemented
abbrev pub invariant-loop-k : goal.invariant-loop-k
invariant-loop-k l = l.t ≡ flipped six (rounds (4 * l.k) l.fn.s)
