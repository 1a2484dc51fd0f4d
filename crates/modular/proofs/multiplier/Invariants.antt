-- The invariants of `multiplier`: what is below k is left to be searched. Assumes nothing.
use Rattle.std.proofs.Common.{◌≡◌}
use Rattle.modular.specs.Division.{multiplier}
use Rattle.modular.proofs.multiplier.Given as goal

abbrev pub invariant-loop-k : goal.invariant-loop-k
invariant-loop-k l = multiplier l.q l.p l.p ≡ multiplier l.q l.p l.k
