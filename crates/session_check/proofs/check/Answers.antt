-- `check` meets its contract. Assumes nothing.
use mathlib.Core.Path.{sym, ap, ◌∙◌}
use Rattle.scratch.proofs.Lent.{lent}
use Rattle.commitment.proofs.Sheets.{sheet_loaded, parameters_are}
use Rattle.codec.specs.Refusal.{as_reply}
use Rattle.sheet.specs.Sheet.{as_reading}
use Rattle.session_check.specs.Stored.{Inputs, inputs_lent}
use Rattle.session_check.proofs.Outcome.{checked_over, checked_refused}
use Rattle.session_check.proofs.check.Goals.{Start}
use Rattle.session_check.proofs.check.Goals as goal

abbrev x : Start → Inputs
x s = inputs_lent s.args.lent s.args.scratch.now

pub slice_bounds-check_taken-end : goal.slice_bounds-check_taken-end
slice_bounds-check_taken-end c = sym (lent c.args.lent.sheet.now (c.load.ensures.0.0, c.load.ensures.1) (ap as_reading c.in-Ok.is)).sized

pub check_taken-requires : goal.check_taken-requires
check_taken-requires c =
    let h = lent c.args.lent.sheet.now (c.load.ensures.0.0, c.load.ensures.1) (ap as_reading c.in-Ok.is) in
    (c.requires, h.numbers, sheet_loaded h)

pub returns-in-Ok : goal.returns-in-Ok
returns-in-Ok c =
    let t = ap as_reading c.in-Ok.is in
    checked_over c.args.held (x (goal.at.returns-in-Ok c).Start) (lent c.args.lent.sheet.now (c.load.ensures.0.0, c.load.ensures.1) t).said
    (parameters_are c.args.lent.sheet.now (c.load.ensures.0.0, c.load.ensures.1) t) c.check_taken.ensures

pub returns-in-Err : goal.returns-in-Err
returns-in-Err c =
    let l = c.load.ensures.0 in
    let s = c.stopped.ensures in
    rw s.0 (checked_refused c.args.held (x (goal.at.returns-in-Err c).Start) (sym (ap as_reading c.in-Err.is) ∙ l.0) (sym (ap as_reply c.in-Err.is) ∙ l.1) s.1)
