-- The invariants of `plain`. Assumes nothing.
use mathlib.Core.Path.{◌≡◌}
use Rattle.ring.specs.Slots.{poly}
use Rattle.bgv.specs.Scheme.{plaintext}
use Rattle.bgv.proofs.Votes.{voted}
use Rattle.bgv.proofs.plain.Given as goal

abbrev pub invariant-loop-i : goal.invariant-loop-i
invariant-loop-i l = l.vote ≡ voted l.initial.vote (plaintext l.q l.p (poly l.work)) l.i
