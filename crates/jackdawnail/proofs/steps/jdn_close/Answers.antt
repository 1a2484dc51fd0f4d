-- `steps::jdn_close` meets its contract. Assumes nothing.
use borrow.Author.Rules.{rules}
use Rattle.session.specs.Machine.{close}
use Rattle.jackdawnail.proofs.OverImage.{stepped_over}
use Rattle.jackdawnail.proofs.steps.jdn_close.Goals as goal

pub returns : goal.returns
returns c =
    let a = c.args in
    let o = c.over_image.ensures in
    stepped_over _ _ close a.image.now a.reg.now o.wrong o.stepped (λ p q r e m. search rules)
