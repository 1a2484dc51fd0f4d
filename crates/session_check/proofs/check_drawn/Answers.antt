-- `session_check::check_drawn` meets its contract. Assumes nothing.
use mathlib.Core.Path.{sym, ap, ◌∙◌}
use Rattle.codec.specs.Reply.{first}
use Rattle.codec.specs.Refusal.{as_reply}
use Rattle.round.specs.Round.{Round, round_tests}
use Rattle.commitment.specs.Parameters.{parameters}
use Rattle.session_check.specs.Stored.{Inputs, inputs_lent, drawn_round}
use Rattle.session_check.proofs.Held.{round_lengths}
use Rattle.session_check.proofs.Outcome.{stopped, judged, judged_zeroized, drawn_round_lem}
use Rattle.session_check.proofs.check_drawn.Goals.{Start}
use Rattle.session_check.proofs.check_drawn.Goals as goal

abbrev x : Start → Inputs
x s = inputs_lent s.args.lent s.args.scratch.now

pub test_lent-early-requires : goal.test_lent-early-requires
test_lent-early-requires c = let p = c.requires in (p.0, p.1, p.4)

pub check_round-requires : goal.check_round-requires
check_round-requires c =
    let a = c.args in
    let p = c.requires in
    let l = round_lengths a.held (x (goal.at.check_round-requires c).Start) p.1 c.test_lent-early.ensures (ap as_reply c.in-Ok.is) p.4 a.public.now a.side in
    (p.2, l.1, p.0.1, l.0)

pub returns-in-Err : goal.returns-in-Err
returns-in-Err c =
    let s = c.stopped.ensures in
    rw s.0 (stopped _ c.test_lent-early.ensures (ap as_reply c.in-Err.is), s.1)

pub returns-in-Ok : goal.returns-in-Ok
returns-in-Ok c =
    let a = c.args in
    let p = c.requires in
    let P = parameters a.k a.public.now in
    let m = a.held.closed in
    let r = drawn_round a.held (x (goal.at.returns-in-Ok c).Start) in
    let e = c.check_round.ensures in
    let said = e.replied ∙ ap (λ (y : Round). first (round_tests P m y)) (drawn_round_lem a.held (x (goal.at.returns-in-Ok c).Start) p.3 p.4) in
    let v = c.verdict_of.ensures in
    (judged P m r v said c.test_lent-early.ensures (ap as_reply c.in-Ok.is), e.cleared ∙ sym (judged_zeroized P m r v said a.scratch.now))
