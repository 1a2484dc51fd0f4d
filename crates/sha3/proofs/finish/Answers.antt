-- `sha3::finish` meets its contract. Assumes nothing.
use mathlib.Core.Path.{refl, ap, ◌∙◌}
use Rattle.sha3.specs.Sponge.{squeeze}
use Rattle.sha3.proofs.Squeezing.{squeezed}
use Rattle.sha3.proofs.finish.Goals as goal

pub returns : goal.returns
returns c =
    let t = c.pad-t in
    rw (c.write64-4.ensures, c.write64-3.ensures, c.write64-2.ensures, c.write64.ensures)
    (squeezed _ t.result refl ∙ ap squeeze t.ensures)
