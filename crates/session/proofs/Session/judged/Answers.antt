-- `Session::judged` meets its contract. Assumes nothing.
use mathlib.Core.Path.{refl}
use Rattle.session.specs.Steps.{accepted_by, refused_by}
use Rattle.session.proofs.Session.judged.Goals as goal

pub returns-in-Stopped : goal.returns-in-Stopped
returns-in-Stopped c = (c.reply_of-reply.ensures, rw c.in-Stopped.is refl)

pub returns-in-Failed : goal.returns-in-Failed
unfolding refused_by
returns-in-Failed c = (c.reply_of-reply.ensures, rw c.in-Failed.is (rw c.with_refusal.ensures refl))

pub returns-in-Passed : goal.returns-in-Passed
unfolding accepted_by
returns-in-Passed c = (c.reply_of-reply.ensures, rw c.in-Passed.is (rw c.with_acceptance.ensures refl))
