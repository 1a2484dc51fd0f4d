-- `sheet_lines::scan_values` meets its contract. Assumes nothing.
use mathlib.Core.Path.{sym, ◌∙◌}
use native.Mathlib.Omega.{arith}
use Rattle.sheet_lines.proofs.Scanning.{starts, over, goes_on, stops, not_begun, at_other, at_comma, at_lf}
use Rattle.sheet_lines.proofs.scan_values.Goals as goal
use Rattle.sheet_lines.proofs.scan_values.Goals.{in-Some+in_ok-with_digit-in-Some, in-None+in_ok-value-in-None+else-c-eq10+else-c-ne44}

pub loop-i-init : goal.loop-i-init
loop-i-init c = starts c.args.text.now c.args.at

pub returns-in_err-with_digit-in-Some : goal.returns-in_err-with_digit-in-Some
returns-in_err-with_digit-in-Some c =
    rw c.from_residual.ensures
    (stops c.loop-i.invariant (omega arith) c.in-Some.ensures.0 c.in-Some.ensures.1 (sym c.with_digit.ensures ∙ c.in_err-with_digit-in-Some.was))

pub returns-in_err-value-in-None : goal.returns-in_err-value-in-None
returns-in_err-value-in-None c =
    rw c.from_residual-in_err-value-in-None.ensures (not_begun c.loop-i.invariant (omega arith) c.in-None.ensures c.in_err-value-in-None.was)

pub returns-then-c-eq10 : goal.returns-then-c-eq10
returns-then-c-eq10 c =
    rw c.max-largest.ensures (at_lf c.loop-i.invariant (omega arith) c.in-None.ensures c.in_ok-value-in-None.was c.if-c-eq10.true)

pub returns-then-c-ne44 : goal.returns-then-c-ne44
returns-then-c-ne44 c =
    at_other c.loop-i.invariant (omega arith) c.in-None.ensures c.in_ok-value-in-None.was c.if-c-eq10.false c.if-c-ne44.true

pub loop-i-preserved : goal.loop-i-preserved
loop-i-preserved c =
    elim c.match-digit_of.branch [
      | in-Some+in_ok-with_digit-in-Some w ↦
          rw (w.value-is, w.count-is, w.largest-is)
          (goes_on c.loop-i.invariant (omega arith) w.in-Some.ensures.0 w.in-Some.ensures.1 (sym w.with_digit.ensures ∙ w.in_ok-with_digit-in-Some.was))
      | in-None+in_ok-value-in-None+else-c-eq10+else-c-ne44 w ↦
          rw (w.value-is, w.count-is, w.largest-is, w.max-largest.ensures)
          (at_comma c.loop-i.invariant (omega arith) w.in-None.ensures w.in_ok-value-in-None.was w.if-c-ne44.false)
    ]

pub returns : goal.returns
returns c = over c.loop-i.invariant (omega arith)
