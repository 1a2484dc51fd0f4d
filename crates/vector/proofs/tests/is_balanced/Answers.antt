-- `tests::is_balanced` meets its contract. Assumes nothing.
use mathlib.Core.Path.{◌≡◌}
use mathlib.Core.Bool.{◌&&◌}
use Prim.Native.Nat.{◌*◌}
use native.Mathlib.Omega.{arith}
use lib.Dec.{eqb}
use lib.ListN.{length}
use Rattle.std.proofs.lemmas.Bool.Decides.{nat_tests}
use Rattle.ring.specs.Ternary.{count}
use Rattle.vector.specs.Permutation.{balanced}
use Rattle.vector.proofs.tests.is_balanced.Goals as goal
use Rattle.vector.proofs.tests.is_balanced.Goals.{Joined-count_of-l, then-w-eq0, else-w-eq0, then-w-l, else-w-l, then-count_of-l, else-count_of-l}

counted : (c : Joined-count_of-l)
    → c.if-count_of-l.value ≡ (eqb (length c.args.w.now) (3 * c.args.l) && (eqb (count 2 c.args.w.now) c.args.l && eqb (count 0 c.args.w.now) c.args.l))
counted c =
    let w = c.args.w.now in
    let l = c.args.l in
    let long : c.if-w-eq0.value ≡ eqb (length w) (3 * l) = elim c.if-w-eq0.branch [ then-w-eq0 w ↦ grind (arith, nat_tests) | else-w-eq0 w ↦ grind (arith, nat_tests) ] in
    let minus : c.if-w-l.value ≡ (eqb (length w) (3 * l) && eqb (count 2 w) l) = elim c.if-w-l.branch [ then-w-l w ↦ grind (arith, nat_tests) | else-w-l w ↦ grind (arith, nat_tests) ] in
    elim c.if-count_of-l.branch [ then-count_of-l w ↦ grind (arith, nat_tests) | else-count_of-l w ↦ grind (arith, nat_tests) ]

pub returns-then-count_of-l-2 : goal.returns-then-count_of-l-2
unfolding balanced
returns-then-count_of-l-2 c = let l = counted (goal.at.returns-then-count_of-l-2 c).Joined-count_of-l in grind (arith, nat_tests)

pub returns-else-count_of-l-2 : goal.returns-else-count_of-l-2
unfolding balanced
returns-else-count_of-l-2 c = let l = counted (goal.at.returns-else-count_of-l-2 c).Joined-count_of-l in grind (arith, nat_tests)
