-- `test_check_round` meets its contract. Assumes nothing.
use mathlib.Core.Path.{refl, sym}
use Rattle.scratch.proofs.Lent.{lent}
use Rattle.commitment.proofs.Sheets.{sheet_loaded}
use Rattle.round.specs.Round.{Round}
use Rattle.round.specs.Internal.{round_of}
use Rattle.test_check.proofs.Given.{check_over, check_unread}
use Rattle.test_check.proofs.test_check_round.Goals.{Start}
use Rattle.test_check.proofs.test_check_round.Goals as goal

abbrev x : Start → Round
x s = let a = s.args in round_of a.side a.challenges.now a.ballots.now a.claims.now a.head.now a.shares0.now a.shares1.now a.opening.now a.answers.now

pub returns-in-Err : goal.returns-in-Err
returns-in-Err c = check_unread c.args.sheet.now c.in-Err.why c.in-Err.ensures.0 (x (goal.at.returns-in-Err c).Start) c.args.scratch.now c.finish.ensures c.pack-in-Err.ensures

pub slice_bounds-check-end : goal.slice_bounds-check-end
slice_bounds-check-end c = sym (lent c.args.sheet.now (c.in-Ok.ensures.0.0, c.in-Ok.ensures.1) refl).sized

pub check-requires : goal.check-requires
check-requires c = sheet_loaded (lent c.args.sheet.now (c.in-Ok.ensures.0.0, c.in-Ok.ensures.1) refl)

pub returns-in-Ok : goal.returns-in-Ok
returns-in-Ok c = check_over c.args.sheet.now (c.in-Ok.ensures.0.0, c.in-Ok.ensures.1) refl (x (goal.at.returns-in-Ok c).Start) c.args.scratch.now c.check.ensures c.pack.ensures
