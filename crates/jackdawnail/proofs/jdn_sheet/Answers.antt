-- `jackdawnail::jdn_sheet` meets its contract. Assumes nothing.
use mathlib.Core.Path.{◌∙◌, ap}
use Rattle.codec.specs.Reply.{packed}
use Rattle.jackdawnail.proofs.jdn_sheet.Goals as goal

pub returns : goal.returns
returns c =
    let d = c.describe in
    record { replied = c.pack.ensures ∙ ap packed d.ensures.0; written = d.ensures.1 }
