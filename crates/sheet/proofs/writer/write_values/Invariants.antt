-- The invariants of `write_values`. Assumes nothing.
use Rattle.sheet.proofs.Writing.{Writing}
use Rattle.sheet.proofs.writer.write_values.Given as goal

abbrev pub invariant-loop-i : goal.invariant-loop-i
invariant-loop-i l = Writing l.text l.at l.from l.initial.out l.i l.value l.o l.out
