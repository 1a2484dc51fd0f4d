-- `calls::describe` meets its contract. Assumes nothing.
use mathlib.Core.Path.{sym, ap, ◌∙◌}
use Rattle.codec.specs.Reply.{leaves}
use Rattle.sheet.proofs.Taken.{taken}
use Rattle.codec.proofs.Refusals.{handed_on}
use Rattle.sheet.specs.Sheet.{as_reading, reply_of}
use Rattle.sheet.specs.Calls.{description, describe_out}
use Rattle.sheet.proofs.Answers.{describe_length, describe_refused, describe_taken}
use Rattle.sheet.proofs.calls.describe.Goals as goal

pub returns-then-out-ne32 : goal.returns-then-out-ne32
unfolding describe_out leaves
returns-then-out-ne32 c =
    let a = c.args in
    let e = describe_length a.text.now a.out.now c.if-out-ne32.true in
    (sym e, rw e)

pub write_description-requires : goal.write_description-requires
write_description-requires c =
    let t = taken c.args.text.now (sym c.read.ensures.0 ∙ ap as_reading c.in_ok-k.was) in
    (t.inside, c.if-out-ne32.false)

pub returns-in_err-k : goal.returns-in_err-k
unfolding describe_out leaves
returns-in_err-k c =
    let a = c.args in
    let r = c.in_err-k.ensures in
    let e = describe_refused a.text.now a.out.now c.if-out-ne32.false (sym r.0) in
    rw (handed_on c.from_residual.result c.from_residual.ensures.1) (r.1 ∙ ap reply_of (sym r.0) ∙ sym e, rw e)

pub returns : goal.returns
unfolding describe_out leaves
returns c =
    let a = c.args in
    let r = sym c.read.ensures.0 ∙ ap as_reading c.in_ok-k.was in
    let e = describe_taken a.text.now a.out.now c.if-out-ne32.false r in
    (sym e, rw e (c.write_description.ensures ∙ ap (description) (sym (taken a.text.now r).numbers)))
