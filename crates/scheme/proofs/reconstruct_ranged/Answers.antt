-- `scheme::reconstruct_ranged` meets its contract. Assumes nothing.
use mathlib.Core.List.{[], ◌∷◌}
use Rattle.codec.specs.Lists.{list, all_below}
use Rattle.ring.specs.Slots.{poly}
use Rattle.scratch.specs.Call.{coefficients_below}
use Rattle.scratch.proofs.Order.{fails, goes_on}
use Rattle.scratch.proofs.Ranges.{whole_range}
use Rattle.scheme.proofs.reconstruct_ranged.Goals as goal

pub returns-then-in_range : goal.returns-then-in_range
returns-then-in_range c =
    let a = c.args in
    let v = whole_range a.q a.n a.v.now c.requires.0 c.in_range.ensures in
    goes_on (all_below a.q (list a.n (poly a.v.now))) (coefficients_below a.q a.n (a.t0.now ∷ a.t1.now ∷ [])) v c.if-in_range.true c.both_in_range.ensures

pub returns-else-in_range : goal.returns-else-in_range
returns-else-in_range c =
    let a = c.args in
    let v = whole_range a.q a.n a.v.now c.requires.0 c.in_range.ensures in
    fails (all_below a.q (list a.n (poly a.v.now))) (coefficients_below a.q a.n (a.t0.now ∷ a.t1.now ∷ [])) v c.if-in_range.false
