-- `scratch::both_in_range` meets its contract. Assumes nothing.
use mathlib.Core.Bool.{true, ◌&&◌}
use Rattle.codec.specs.Lists.{list, all_below}
use Rattle.ring.specs.Slots.{poly}
use Rattle.scratch.proofs.Order.{goes_on, last}
use Rattle.scratch.proofs.Ranges.{whole_range}
use Rattle.scratch.proofs.both_in_range.Goals as goal

pub returns-then-in_range : goal.returns-then-in_range
returns-then-in_range c =
    let a = c.args in
    let p = c.requires in
    let x = all_below a.q (list a.n (poly a.x.now)) in
    let y = all_below a.q (list a.n (poly a.y.now)) in
    goes_on x (y && true) (whole_range a.q a.n a.x.now p.0 c.in_range.ensures) c.if-in_range.true (last y (whole_range a.q a.n a.y.now p.1 c.in_range-then-in_range.ensures))
