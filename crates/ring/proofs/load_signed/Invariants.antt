-- The invariants of `load_signed`. Assumes nothing.
use Rattle.std.proofs.Common.{◌≡◌}
use Rattle.ring.proofs.Filling.{filled}
use Rattle.ring.specs.Internal.{from_signed}
use Rattle.ring.proofs.load_signed.Given as goal

abbrev pub invariant-loop-i : goal.invariant-loop-i
invariant-loop-i l = l.work ≡ filled l.initial.work l.at (from_signed l.q l.e) l.i
