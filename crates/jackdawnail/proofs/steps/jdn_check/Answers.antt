-- `steps::jdn_check` meets its contract. Assumes nothing.
use Rattle.session_image.proofs.Over.{wrong_check, over_check}
use Rattle.jackdawnail.proofs.steps.jdn_check.Goals as goal

pub returns-then-image-ne-IMAGE : goal.returns-then-image-ne-IMAGE
returns-then-image-ne-IMAGE c = rw c.pack.ensures (wrong_check _ _ _ c.if-image-ne-IMAGE.true)

pub returns : goal.returns
returns c = over_check _ _ _ c.if-image-ne-IMAGE.false c.load-session.ensures c.check-stepped.ensures c.keep.ensures
