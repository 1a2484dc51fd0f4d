-- The invariants of `answers_ranged`. Assumes nothing.
use Rattle.round_side.proofs.Ranged.{Heard}
use Rattle.round_side.proofs.answers_ranged.Given as goal

abbrev pub invariant-loop-challenge : goal.invariant-loop-challenge
invariant-loop-challenge l = Heard l.k.modulus l.k.ring l.challenges l.answers l.k.repeats l.challenge-index l.at
