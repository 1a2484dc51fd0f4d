-- `steps::jdn_withdraw` meets its contract. Assumes nothing.
use borrow.Author.Rules.{rules}
use Rattle.session.specs.Machine.{withdraw}
use Rattle.jackdawnail.proofs.OverImage.{stepped}
use Rattle.jackdawnail.proofs.steps.jdn_withdraw.Goals as goal

pub returns : goal.returns
returns c =
    let a = c.args in
    let o = c.over_image.ensures in
    stepped _ _ (withdraw a.mark) a.image.now a.reg.now o.wrong o.stepped (λ p q r e m. rw (← e) (search rules))
