-- `Session::claim` meets its contract. Assumes nothing.
use mathlib.Core.Path.{refl, sym, ◌∙◌}
use native.Mathlib.Omega.{arith}
use Rattle.session_progress.proofs.Limits.{within_due, bounds}
use Rattle.session.specs.Steps.{claimed_by}
use Rattle.session.proofs.Stepping.{stays, moves}
use Rattle.session.proofs.CountingTests.{claim_phase, claim_length, claim_range, claim_taken}
use Rattle.session.proofs.Session.claim.Goals as goal

pub returns-then-not-is_in : goal.returns-then-not-is_in
returns-then-not-is_in c = λ register. stays _ _ (claim_phase _ _ (sym c.is_in.ensures ∙ c.if-not-is_in.true)) refl c.refused.ensures

pub times-requires : goal.times-requires
times-requires c = let w = within_due _ _ _ (sym c.is_in.ensures ∙ c.if-not-is_in.false) in (omega (arith, (bounds w).ring_high), w.closed)

pub returns-then-claims-times : goal.returns-then-claims-times
returns-then-claims-times c = λ register. stays _ _ (claim_length _ _ (sym c.is_in.ensures ∙ c.if-not-is_in.false) (λ e. c.if-claims-times.true (e ∙ sym c.times.ensures))) refl c.refused-then-claims-times.ensures

pub returns-then-not-is_message : goal.returns-then-not-is_message
returns-then-not-is_message c =
    let m = c.is_message in
    let ranged = rw c.plain-p.ensures at m.ensures in
    λ register. stays _ _ (claim_range _ _ (sym c.is_in.ensures ∙ c.if-not-is_in.false) (c.if-claims-times.false ∙ c.times.ensures) (sym ranged ∙ c.if-not-is_message.true)) refl c.refused-then-not-is_message.ensures

pub returns : goal.returns
unfolding claimed_by
returns c =
    let m = c.is_message in
    let ranged = rw c.plain-p.ensures at m.ensures in
    λ register. moves _ _ (claim_taken _ _ (sym c.is_in.ensures ∙ c.if-not-is_in.false) (c.if-claims-times.false ∙ c.times.ensures) (sym ranged ∙ c.if-not-is_message.false)) refl (rw (c.with_claims.ensures, c.claim_digest.ensures)) refl
