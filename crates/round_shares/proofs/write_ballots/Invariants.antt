-- The invariants of `write_ballots`. Assumes nothing.
use Rattle.sheet_numbers.specs.Plain.{plain}
use Rattle.round_shares.proofs.BallotWriting.{Sent}
use Rattle.round_shares.proofs.write_ballots.Given as goal

abbrev pub invariant-loop-j : goal.invariant-loop-j
invariant-loop-j l =
    Sent l.k.modulus l.k.ring (plain l.k) l.count l.lent.secrets.now l.lent.s0.now l.lent.masks0.now l.lent.masks1.now l.lent.ballots.now l.initial.shares0 l.initial.shares1 l.initial.claims l.j l.shares0 l.shares1 l.claims l.work
