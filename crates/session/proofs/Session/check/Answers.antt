-- `Session::check` meets its contract. Assumes nothing.
use mathlib.Core.Path.{sym, ◌∙◌}
use native.Mathlib.Omega.{arith}
use Rattle.session_check.specs.Stored.{inputs_lent}
use Rattle.session_progress.proofs.Limits.{within_due, round_known, bounds}
use Rattle.session.specs.Session.{trail_at}
use Rattle.session.proofs.CheckTests.{check_undue, check_judged}
use Rattle.session.proofs.Session.check.Goals as goal

pub returns-then-not-may_check : goal.returns-then-not-may_check
returns-then-not-may_check c = check_undue _ _ _ (sym c.may_check.ensures ∙ c.if-not-may_check.true) c.refused.ensures

pub read-requires : goal.read-requires
read-requires c = let d = sym c.may_check.ensures ∙ c.if-not-may_check.false in omega (arith, (round_known c.args.self.numbers c.args.self.progress 3 c.args.self.progress.checked c.args.round d).1.1, (bounds (within_due _ _ _ d)).rounds_high)

pub overflow_cast-held : goal.overflow_cast-held
overflow_cast-held c = let d = sym c.may_check.ensures ∙ c.if-not-may_check.false in omega (arith, (round_known c.args.self.numbers c.args.self.progress 3 c.args.self.progress.checked c.args.round d).1.1, (bounds (within_due _ _ _ d)).rounds_high)

pub check-verdict-requires : goal.check-verdict-requires
check-verdict-requires c = let w = within_due _ _ _ (sym c.may_check.ensures ∙ c.if-not-may_check.false) in (w.inside, w.closed)

pub judged-requires : goal.judged-requires
judged-requires c = let k = round_known c.args.self.numbers c.args.self.progress 3 c.args.self.progress.checked c.args.round (sym c.may_check.ensures ∙ c.if-not-may_check.false) in (k.0, omega (arith, k.1.0, k.1.1))

pub returns : goal.returns
unfolding trail_at
returns c =
    let a = c.args in
    let k = c.check-verdict.ensures in
    check_judged a.self a.round (inputs_lent a.lent a.scratch.now) (sym c.may_check.ensures ∙ c.if-not-may_check.false) c.read.ensures k.0 c.judged.ensures k.1
