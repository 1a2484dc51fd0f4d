-- `ring::add` meets its contract. Assumes nothing.
use mathlib.Core.Path.{ap, ◌∙◌}
use Rattle.ring.proofs.Polynomials.{scale_one}
use Rattle.ring.specs.Poly.{Poly, plus}
use Rattle.ring.specs.Slots.{poly, slot}
use Rattle.ring.specs.Internal.{store}
use Rattle.ring.proofs.add.Goals as goal

pub returns : goal.returns
returns c =
    let a = c.args in
    c.combine_lent.ensures ∙ ap (λ (f : Poly). store a.q a.n a.work.now a.at (plus (slot a.work.now a.at) f)) (scale_one (poly a.a.now))
