-- `Session::withdraw` meets its contract. Assumes nothing.
use mathlib.Core.Path.{◌≡◌, refl, sym, ap, ◌∙◌}
use mathlib.Core.Bool.{Bool, true, false, cond, not}
use Prim.Native.Nat.{ℕ}
use Rattle.codec.specs.Bytes.{Bytes}
use Rattle.codec.specs.Reply.{leaves, Reply, Taken, Refused}
use Rattle.register.specs.Register.{known}
use Rattle.register.specs.Internal.{Withdrawal, Withdrew}
use Rattle.session_progress.proofs.Limits.{within_due}
use Rattle.session.specs.declared.Session.{Session}
use Rattle.session.specs.Steps.{entered_by, withdrawn_by}
use Rattle.session.proofs.Stepping.{stays, decides}
use Rattle.session.proofs.GatheringTests.{withdraw_phase, withdraw_register, withdraw_on}
use Rattle.session.proofs.Session.withdraw.Goals as goal

-- the session goes by whether the mark got an entry
entering : (s : Session) (reg : Bytes) (mark : ℕ) {r : Withdrawal} {reg' : Bytes} → Withdrew reg s.progress.used mark r reg'
    → cond r.entered (entered_by s) s ≡ leaves r.reply (withdrawn_by s reg mark) s
unfolding leaves withdrawn_by
entering s reg mark {r} w = ap (λ (x : Bool). cond x (entered_by s) s) w.entered ∙ go r.reply (known reg mark s.progress.used)
  where
    go : (q : Reply) (k : Bool) → cond (leaves q (not k) false) (entered_by s) s ≡ leaves q (cond k s (entered_by s)) s
    go Taken true = refl
    go Taken false = refl
    go (Refused number place) k = refl

pub returns-then-not-is_in : goal.returns-then-not-is_in
returns-then-not-is_in c = stays _ _ (withdraw_phase _ _ _ (sym c.is_in.ensures ∙ c.if-not-is_in.true)) refl c.refused.ensures

pub returns-then-reg-ne-REGISTER : goal.returns-then-reg-ne-REGISTER
returns-then-reg-ne-REGISTER c = stays _ _ (withdraw_register _ _ _ (sym c.is_in.ensures ∙ c.if-not-is_in.false) c.if-reg-ne-REGISTER.true) refl c.refused-then-reg-ne-REGISTER.ensures

pub withdraw-requires : goal.withdraw-requires
withdraw-requires c = (c.if-reg-ne-REGISTER.false, (within_due _ _ _ (sym c.is_in.ensures ∙ c.if-not-is_in.false)).used)

pub entered-requires : goal.entered-requires
entered-requires c = (within_due _ _ _ (sym c.is_in.ensures ∙ c.if-not-is_in.false)).used

pub returns-in-Ok-Entered : goal.returns-in-Ok-Entered
returns-in-Ok-Entered c =
    let a = c.args in
    let w = rw c.in-Ok-Entered.field-0-is at (rw c.in-Ok-Entered.is at c.withdraw.ensures) in
    rw (c.entered.ensures.0, c.entered.ensures.1)
    (decides _ _ _ (withdraw_on _ _ _ (sym c.is_in.ensures ∙ c.if-not-is_in.false) c.if-reg-ne-REGISTER.false) refl w.wrote (entering a.self a.reg.now a.mark w))

pub returns-in-Ok-Struck : goal.returns-in-Ok-Struck
returns-in-Ok-Struck c =
    let a = c.args in
    let w = rw c.in-Ok-Struck.field-0-is at (rw c.in-Ok-Struck.is at c.withdraw.ensures) in
    decides _ _ _ (withdraw_on _ _ _ (sym c.is_in.ensures ∙ c.if-not-is_in.false) c.if-reg-ne-REGISTER.false) refl w.wrote (entering a.self a.reg.now a.mark w)

pub returns-in-Err : goal.returns-in-Err
unfolding leaves
returns-in-Err c =
    let w = rw c.in-Err.is at c.withdraw.ensures in
    rw (c.refused-in-Err.ensures.0, c.refused-in-Err.ensures.1)
    (decides _ _ _ (withdraw_on _ _ _ (sym c.is_in.ensures ∙ c.if-not-is_in.false) c.if-reg-ne-REGISTER.false) refl w.wrote refl)
