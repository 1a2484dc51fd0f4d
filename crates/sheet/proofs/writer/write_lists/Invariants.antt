-- The invariants of `write_lists`. Assumes nothing.
use Rattle.sheet.proofs.Filling.{Filling}
use Rattle.sheet.proofs.writer.write_lists.Given as goal

abbrev pub invariant-loop-i : goal.invariant-loop-i
invariant-loop-i l = Filling l.text l.initial.out l.i l.at l.o l.out
