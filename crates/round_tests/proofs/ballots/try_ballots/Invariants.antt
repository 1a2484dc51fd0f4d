-- The invariants of `try_ballots`. Assumes nothing.
use Rattle.sheet_numbers.specs.Plain.{plain, mask_bound_of}
use Rattle.round_tests.proofs.BallotLoop.{Reached}
use Rattle.round_tests.proofs.ballots.try_ballots.Given as goal

abbrev pub invariant-loop-j : goal.invariant-loop-j
invariant-loop-j l =
    Reached l.k.modulus l.k.ring (plain l.k) (mask_bound_of l.k) l.s l.ballots l.claims l.side l.shares0 l.shares1 l.j l.work
