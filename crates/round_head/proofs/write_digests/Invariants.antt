-- The invariants of `write_digests`. Assumes nothing.
use Rattle.commitment.specs.Commitment.{keys_of}
use Rattle.round_head.proofs.Drawing.{Digested}
use Rattle.round_head.proofs.write_digests.Given as goal

abbrev pub invariant-loop-i : goal.invariant-loop-i
invariant-loop-i l =
    Digested l.q l.n l.repeats (keys_of l.n l.keys) l.lent.secrets.now l.lent.vectors.now l.lent.permutations.now l.lent.salts.now l.initial.head l.i l.head l.work
