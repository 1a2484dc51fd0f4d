-- `steps::jdn_turnout` meets its contract. Assumes nothing.
use mathlib.Core.Path.{sym, ap, ◌∙◌}
use Rattle.codec.specs.Reply.{first, Reply}
use Rattle.register.specs.Register as entries
use Rattle.session.specs.declared.Session.{Session}
use Rattle.session.specs.Steps.{Turnout, turnout_tests, turnout_by}
use Rattle.session_image.specs.Image.{decode}
use Rattle.session_image.specs.Images.{turnout_reply, turnout_answer, counted_answer}
use Rattle.session_image.proofs.Over.{wrong_reply, held_reply, counted}
use Rattle.jackdawnail.proofs.steps.jdn_turnout.Goals as goal

pub returns-then-image-ne-IMAGE : goal.returns-then-image-ne-IMAGE
unfolding turnout_reply turnout_answer
returns-then-image-ne-IMAGE c =
    let a = c.args in
    c.pack.ensures ∙ rw (wrong_reply a.image.now (λ (s : Session). first (turnout_tests s a.reg.now a.enrolled)) c.if-image-ne-IMAGE.true)

pub returns : goal.returns
unfolding turnout_reply turnout_answer
returns c =
    let a = c.args in
    let asked : Session → Reply = λ s. first (turnout_tests s a.reg.now a.enrolled) in
    let counted_by : Session → Reply → Turnout = λ s r. turnout_by r (entries.turnout a.reg.now s.progress.used a.enrolled) in
    let held = c.load.ensures in
    c.pack_value.ensures ∙ counted c.turnout.result c.turnout.ensures
    ∙ ap counted_answer (ap (λ (s : Session). counted_by s (asked s)) held ∙ ap (counted_by (decode a.image.now)) (sym (held_reply a.image.now asked c.if-image-ne-IMAGE.false)))
