-- `steps::jdn_challenges` meets its contract. Assumes nothing.
use mathlib.Core.Path.{sym, ap, ◌∙◌}
use Rattle.codec.specs.Reply.{first, leaves, packed, Reply}
use Rattle.session.specs.declared.Session.{Session}
use Rattle.session.specs.Steps.{challenges_tests, challenges_out}
use Rattle.session_image.specs.Images.{challenges_reply}
use Rattle.session_image.proofs.Over.{wrong_reply, held_reply}
use Rattle.jackdawnail.proofs.steps.jdn_challenges.Goals as goal

pub returns-then-image-ne-IMAGE : goal.returns-then-image-ne-IMAGE
unfolding challenges_reply leaves
returns-then-image-ne-IMAGE c =
    let a = c.args in
    let e = wrong_reply a.image.now (λ (s : Session). first (challenges_tests s a.round a.out.now)) c.if-image-ne-IMAGE.true in
    record { replied = c.pack.ensures ∙ rw e; written = rw e }

pub returns : goal.returns
unfolding challenges_reply
returns c =
    let a = c.args in
    let asked : Session → Reply = λ s. first (challenges_tests s a.round a.out.now) in
    let held = c.load.ensures in
    let e = ap asked held ∙ sym (held_reply a.image.now asked c.if-image-ne-IMAGE.false) in
    let d = c.challenges.ensures in
    record {
      replied = c.pack-2.ensures ∙ ap packed (d.replied ∙ e);
      written = d.written ∙ ap (λ (r : Reply). leaves r (challenges_out c.load.result a.round) a.out.now) e
          ∙ ap (λ (s : Session). leaves (challenges_reply a.image.now a.round a.out.now) (challenges_out s a.round) a.out.now) held;
    }
