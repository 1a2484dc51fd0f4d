-- `vector::component` meets its contract. Assumes nothing.
use mathlib.Core.Path.{sym, ◌∙◌}
use native.Mathlib.Omega.{arith}
use Rattle.ring.specs.Slots.{poly}
use Rattle.vector.proofs.Vectors.{get_d_vector}
use Rattle.vector.proofs.component.Goals as goal

pub returns : goal.returns
unfolding poly
returns c =
    let a = c.args in
    c.read64.ensures ∙ sym (get_d_vector a.x.now a.i (omega arith))
