-- The invariants of `count_of`. Assumes nothing.
use Rattle.std.proofs.Common.{◌≡◌, nat_eq, take}
use Rattle.std.specs.Prelude.{count_by}
use Rattle.ring.proofs.count_of.Given as goal

abbrev pub invariant-loop-b : goal.invariant-loop-b
invariant-loop-b l = l.n ≡ count_by (λ x. nat_eq x l.v) (take l.b-index l.t)
