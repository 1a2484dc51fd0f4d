-- The invariants of `gather_extended`. Assumes nothing.
use mathlib.Core.Path.{◌≡◌}
use lib.ListN.{length}
use lib.Seq.{paste}
use Rattle.vector.specs.Permutation.{entries, apply, extend}
use Rattle.vector.proofs.gather_extended.Given as goal

abbrev pub invariant-loop-i : goal.invariant-loop-i
invariant-loop-i l = l.out ≡ paste l.initial.out l.at (apply (entries l.p) (extend (length l.x) l.x)) l.i
