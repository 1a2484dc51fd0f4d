-- `scratch::zeroize` meets its contract. Assumes nothing.
use mathlib.Core.Path.{ap, sym, ◌∙◌}
use Rattle.codec.specs.Refusal.{reply_by}
use Rattle.scratch.proofs.Zeroizing.{zeroized_taken, zeroized_by}
use Rattle.scratch.proofs.zeroize.Goals as goal

pub returns-in-Ok : goal.returns-in-Ok
returns-in-Ok g c = c.wipe.ensures ∙ sym (zeroized_taken _ _ (ap (reply_by g.E.Refuses.number g.E.Refuses.place) c.in-Ok.is))

pub returns-then-not-keeps_scratch : goal.returns-then-not-keeps_scratch
returns-then-not-keeps_scratch g c =
    c.wipe-then-not-keeps_scratch.ensures
    ∙ sym (zeroized_by _ c.args.scratch.now (ap (reply_by g.E.Refuses.number g.E.Refuses.place) c.in-Err.is) c.if-not-keeps_scratch.ensures)

pub returns-else-not-keeps_scratch : goal.returns-else-not-keeps_scratch
returns-else-not-keeps_scratch g c =
    sym (zeroized_by _ c.args.scratch.now (ap (reply_by g.E.Refuses.number g.E.Refuses.place) c.in-Err.is) c.if-not-keeps_scratch.ensures)
