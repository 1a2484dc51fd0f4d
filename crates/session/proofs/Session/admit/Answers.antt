-- `Session::admit` meets its contract. Assumes nothing.
use mathlib.Core.Path.{refl, sym, ◌∙◌}
use native.Mathlib.Omega.{arith}
use Rattle.codec.specs.Reply.{leaves}
use Rattle.session_progress.proofs.Limits.{within_due, bounds}
use Rattle.session.proofs.Stepping.{stays, decides}
use Rattle.session.proofs.GatheringTests.{ranged, admit_phase, admit_register, admit_ballot, admit_range, admit_on}
use Rattle.session.proofs.Session.admit.Goals as goal

pub returns-then-not-is_in : goal.returns-then-not-is_in
returns-then-not-is_in c = stays _ _ (admit_phase _ _ _ (sym c.is_in.ensures ∙ c.if-not-is_in.true)) refl c.refused.ensures

pub returns-then-reg-ne-REGISTER : goal.returns-then-reg-ne-REGISTER
returns-then-reg-ne-REGISTER c = stays _ _ (admit_register _ _ _ (sym c.is_in.ensures ∙ c.if-not-is_in.false) c.if-reg-ne-REGISTER.true) refl c.refused-then-reg-ne-REGISTER.ensures

pub overflow_mul-self : goal.overflow_mul-self
overflow_mul-self c = omega (arith, (bounds (within_due _ _ _ (sym c.is_in.ensures ∙ c.if-not-is_in.false))).ring_high)

pub overflow_add-self : goal.overflow_add-self
overflow_add-self c = omega (arith, (bounds (within_due _ _ _ (sym c.is_in.ensures ∙ c.if-not-is_in.false))).ring_high)

pub returns-then-ballot-self : goal.returns-then-ballot-self
returns-then-ballot-self c = stays _ _ (admit_ballot _ _ _ (sym c.is_in.ensures ∙ c.if-not-is_in.false) c.if-ballot-self.true) refl c.refused-then-ballot-self.ensures

pub returns-then-not-in_range : goal.returns-then-not-in_range
returns-then-not-in_range c =
    let a = c.args in
    let due = sym c.is_in.ensures ∙ c.if-not-is_in.false in
    let range = sym (ranged a.self.numbers.modulus a.ballot.now (omega (arith, c.if-ballot-self.false)) c.in_range.ensures) ∙ c.if-not-in_range.true in
    stays _ _ (admit_range _ _ _ due c.if-reg-ne-REGISTER.false c.if-ballot-self.false range) refl c.refused-then-not-in_range.ensures

pub admit-requires : goal.admit-requires
admit-requires c = (c.if-reg-ne-REGISTER.false, (within_due _ _ _ (sym c.is_in.ensures ∙ c.if-not-is_in.false)).used, omega (arith, c.if-ballot-self.false))

pub entered-requires : goal.entered-requires
entered-requires c = (within_due _ _ _ (sym c.is_in.ensures ∙ c.if-not-is_in.false)).used

pub returns-in-Ok : goal.returns-in-Ok
unfolding leaves
returns-in-Ok c =
    let a = c.args in
    let due = sym c.is_in.ensures ∙ c.if-not-is_in.false in
    let range = sym (ranged a.self.numbers.modulus a.ballot.now (omega (arith, c.if-ballot-self.false)) c.in_range.ensures) ∙ c.if-not-in_range.false in
    rw (c.entered.ensures.0, c.entered.ensures.1)
    (decides _ _ _ (admit_on _ _ _ due c.if-reg-ne-REGISTER.false c.if-ballot-self.false range) refl (rw c.in-Ok.is at c.admit.ensures) refl)

pub returns-in-Err : goal.returns-in-Err
unfolding leaves
returns-in-Err c =
    let a = c.args in
    let due = sym c.is_in.ensures ∙ c.if-not-is_in.false in
    let range = sym (ranged a.self.numbers.modulus a.ballot.now (omega (arith, c.if-ballot-self.false)) c.in_range.ensures) ∙ c.if-not-in_range.false in
    rw (c.refused-in-Err.ensures.0, c.refused-in-Err.ensures.1)
    (decides _ _ _ (admit_on _ _ _ due c.if-reg-ne-REGISTER.false c.if-ballot-self.false range) refl (rw c.in-Err.is at c.admit.ensures) refl)
