-- `Session::close` meets its contract. Assumes nothing.
use mathlib.Core.Path.{refl, sym, ◌∙◌}
use native.Mathlib.Omega.{arith}
use Rattle.session_progress.proofs.Limits.{within_due}
use Rattle.session.specs.Steps.{closed_by}
use Rattle.session.proofs.Stepping.{stays, moves}
use Rattle.session.proofs.GatheringTests.{close_phase, close_register, close_none, close_taken, digests_counted}
use Rattle.session.proofs.Session.close.Goals as goal

pub returns-then-not-is_in : goal.returns-then-not-is_in
returns-then-not-is_in c = stays _ _ (close_phase _ _ (sym c.is_in.ensures ∙ c.if-not-is_in.true)) refl c.refused.ensures

pub returns-then-reg-ne-REGISTER : goal.returns-then-reg-ne-REGISTER
returns-then-reg-ne-REGISTER c = stays _ _ (close_register _ _ (sym c.is_in.ensures ∙ c.if-not-is_in.false) c.if-reg-ne-REGISTER.true) refl c.refused-then-reg-ne-REGISTER.ensures

pub count_standing-count-requires : goal.count_standing-count-requires
count_standing-count-requires c = omega (arith, (within_due _ _ _ (sym c.is_in.ensures ∙ c.if-not-is_in.false)).used)

pub returns-then-count-eq0 : goal.returns-then-count-eq0
returns-then-count-eq0 c = stays _ _ (close_none _ _ (sym c.is_in.ensures ∙ c.if-not-is_in.false) c.if-reg-ne-REGISTER.false c.count_standing-count.ensures.0 c.if-count-eq0.true) refl c.refused-then-count-eq0.ensures

pub closing_of_register-requires : goal.closing_of_register-requires
closing_of_register-requires c = omega (arith, (within_due _ _ _ (sym c.is_in.ensures ∙ c.if-not-is_in.false)).used)

pub returns : goal.returns
unfolding closed_by
returns c =
    let a = c.args in
    moves _ _ (close_taken _ _ (sym c.is_in.ensures ∙ c.if-not-is_in.false) c.if-reg-ne-REGISTER.false c.count_standing-count.ensures.0 c.if-count-eq0.false)
    refl (rw (c.with_batch.ensures, c.count_standing-count.ensures.0, ← (digests_counted a.reg.now a.self.progress.used), c.closing_of_register.ensures)) refl
