-- `steps::jdn_commit` meets its contract. Assumes nothing.
use borrow.Author.Rules.{rules}
use Rattle.session.specs.Machine.{commit}
use Rattle.jackdawnail.proofs.OverImage.{stepped_over}
use Rattle.jackdawnail.proofs.steps.jdn_commit.Goals as goal

pub returns : goal.returns
returns c =
    let a = c.args in
    let o = c.over_image.ensures in
    λ register. stepped_over _ _ (commit a.round a.head.now a.shares0.now a.shares1.now) a.image.now register o.wrong o.stepped (λ p q r e m. search rules)
