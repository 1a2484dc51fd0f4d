-- `scratch::ternary_and_in_range` meets its contract. Assumes nothing.
use mathlib.Core.Bool.{true, ◌&&◌}
use mathlib.Core.List.{[], ◌∷◌}
use Rattle.codec.specs.Lists.{list, all_below}
use Rattle.ring.specs.Slots.{poly}
use Rattle.scratch.specs.Call.{coefficients_below}
use Rattle.scratch.proofs.Order.{goes_on, last}
use Rattle.scratch.proofs.Ranges.{whole_range}
use Rattle.scratch.proofs.ternary_and_in_range.Goals as goal

pub returns-then-is_ternary : goal.returns-then-is_ternary
returns-then-is_ternary c =
    let a = c.args in
    goes_on (all_below 3 a.s.now && true) (coefficients_below a.q a.n (a.x.now ∷ [])) (last (all_below 3 a.s.now) c.is_ternary.ensures) c.if-is_ternary.true
    (last (all_below a.q (list a.n (poly a.x.now))) (whole_range a.q a.n a.x.now c.requires c.in_range.ensures))
