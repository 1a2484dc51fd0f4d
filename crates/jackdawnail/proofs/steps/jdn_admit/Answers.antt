-- `steps::jdn_admit` meets its contract. Assumes nothing.
use borrow.Author.Rules.{rules}
use Rattle.session.specs.Machine.{admit}
use Rattle.jackdawnail.proofs.OverImage.{stepped}
use Rattle.jackdawnail.proofs.steps.jdn_admit.Goals as goal

pub returns : goal.returns
returns c =
    let a = c.args in
    let o = c.over_image.ensures in
    stepped _ _ (admit a.ballot.now) a.image.now a.reg.now o.wrong o.stepped (λ p q r e m. rw (← e) (search rules))
