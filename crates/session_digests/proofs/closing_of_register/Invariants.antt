-- The invariants of `closing_of_register`. Assumes nothing.
use mathlib.Core.Path.{◌≡◌}
use mathlib.Core.List.{◌++◌, flatten}
use Rattle.hasher.specs.Internal.{holding}
use Rattle.register.specs.Register.{standing_digests}
use Rattle.session_digests.proofs.closing_of_register.Given as goal

abbrev pub invariant-loop-i : goal.invariant-loop-i
invariant-loop-i l = l.h ≡ holding (l.sheet ++ flatten (standing_digests l.reg l.i))
