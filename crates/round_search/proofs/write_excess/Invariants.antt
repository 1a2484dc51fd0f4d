-- The invariants of `write_excess`. Assumes nothing.
use mathlib.Core.Path.{◌≡◌}
use lib.ListN.{length}
use Rattle.ring.specs.Poly.{modulo}
use Rattle.ring.proofs.Filling.{filled}
use Rattle.round_search.specs.Internal.{unknowns_of, excess}
use Rattle.round_search.proofs.write_excess.Given as goal

abbrev pub invariant-loop-i : goal.invariant-loop-i
invariant-loop-i l = (length l.out ≡ length l.initial.out) × (l.out ≡ filled l.initial.out 0 (modulo l.q (excess l.q l.n l.r0 l.r1 (unknowns_of l.q l.n l.u l.r) l.first)) l.i)
