-- The invariants of `scan_values`. Assumes nothing.
use Rattle.sheet_lines.proofs.Scanning.{Scanning}
use Rattle.sheet_lines.proofs.scan_values.Given as goal

abbrev pub invariant-loop-i : goal.invariant-loop-i
invariant-loop-i l = Scanning l.text l.at l.i l.value l.count l.largest
