-- The invariants of `closing_of_ballots`. Assumes nothing.
use mathlib.Core.Path.{◌≡◌}
use mathlib.Core.List.{◌++◌, flatten}
use Rattle.hasher.specs.Internal.{holding}
use Rattle.session_digests.specs.Digests.{ballot_digests}
use Rattle.session_digests.proofs.closing_of_ballots.Given as goal

abbrev pub invariant-loop-j : goal.invariant-loop-j
invariant-loop-j l = l.h ≡ holding (l.sheet ++ flatten (ballot_digests l.size l.j l.ballots))
