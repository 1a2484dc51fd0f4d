-- `test_sheet::sheet_polynomials` meets its contract. Assumes nothing.
use mathlib.Core.Path.{ap, ◌∙◌}
use Rattle.codec.specs.Reply.{packed}
use Rattle.test_sheet.proofs.sheet_polynomials.Goals as goal

pub returns : goal.returns
returns c =
    let d = c.polynomials in
    (c.pack.ensures ∙ ap packed d.ensures.0, d.ensures.1)
