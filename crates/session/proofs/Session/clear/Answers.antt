-- `Session::clear` meets its contract. Assumes nothing.
use mathlib.Core.Path.{refl, sym, ap, ◌∙◌}
use Prim.Native.Nat.{ℕ}
use Rattle.codec.specs.Bytes.{zeros}
use Rattle.codec.specs.Refusal.{as_reply}
use Rattle.sheet.specs.Sheet.{as_reading, reply_of}
use Rattle.sheet.proofs.Taken.{taken}
use Rattle.session.specs.Steps.{cleared}
use Rattle.session.proofs.Stepping.{stays, moves}
use Rattle.session.proofs.GatheringTests.{clear_length, clear_refused, clear_taken}
use Rattle.session.proofs.Session.clear.Goals as goal

pub returns-then-reg-ne-REGISTER : goal.returns-then-reg-ne-REGISTER
returns-then-reg-ne-REGISTER c = stays _ _ (clear_length _ _ c.if-reg-ne-REGISTER.true) refl c.refused.ensures

pub returns-in-Ok : goal.returns-in-Ok
unfolding cleared
returns-in-Ok c =
    let f = sym c.read.ensures.0 ∙ ap as_reading c.in-Ok.is in
    moves _ _ (clear_taken _ _ c.if-reg-ne-REGISTER.false f) refl (rw (c.start.ensures, ← (taken _ f).numbers, c.hash-sheet.ensures)) (c.wipe.ensures ∙ ap (λ (n : ℕ). zeros n) c.if-reg-ne-REGISTER.false)

pub returns-in-Err : goal.returns-in-Err
returns-in-Err c =
    let f = sym c.read.ensures.0 ∙ ap as_reading c.in-Err.is in
    let said = sym (ap as_reply c.in-Err.is) ∙ c.read.ensures.1 ∙ ap reply_of f in
    stays _ _ (clear_refused _ _ c.if-reg-ne-REGISTER.false f) refl (c.refused-in-Err.ensures.0, c.refused-in-Err.ensures.1 ∙ said)
