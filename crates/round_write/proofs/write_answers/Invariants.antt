-- The invariants of `write_answers`. Assumes nothing.
use Rattle.round_write.proofs.Answering.{Answering}
use Rattle.round_write.proofs.write_answers.Given as goal

abbrev pub invariant-loop-i : goal.invariant-loop-i
invariant-loop-i l = Answering l.q l.n l.fn.k.repeats l.lent.secrets.now l.lent.vectors.now l.lent.permutations.now l.lent.salts.now l.challenges l.initial.answers l.i l.at l.answers
