-- The invariants of `test_permutations`. Assumes nothing.
use mathlib.Core.Path.{◌≡◌}
use Prim.Native.Nat.{◌*◌}
use lib.ListN.{length}
use Rattle.codec.specs.Bytes.{part}
use Rattle.vector.specs.Permutation.{entries, permutes}
use Rattle.round.proofs.Walk.{Walked}
use Rattle.round_material.proofs.permutations.test_permutations.Given as goal

abbrev pub invariant-loop-i : goal.invariant-loop-i
invariant-loop-i l =
    (length l.work ≡ length l.initial.work)
    × Walked (λ j. permutes (42 * l.n) (entries (part l.permutations (168 * l.n * j) (168 * l.n)))) (168 * l.n) l.fn.k.repeats l.i (168 * l.n * l.i)
