-- `scratch::both_ternary` meets its contract. Assumes nothing.
use mathlib.Core.Bool.{true, ◌&&◌}
use Rattle.codec.specs.Lists.{all_below}
use Rattle.scratch.proofs.Order.{goes_on, last}
use Rattle.scratch.proofs.both_ternary.Goals as goal

pub returns-then-is_ternary : goal.returns-then-is_ternary
returns-then-is_ternary c =
    let a = c.args in
    goes_on (all_below 3 a.s.now) (all_below 3 a.e.now && true) c.is_ternary.ensures c.if-is_ternary.true (last (all_below 3 a.e.now) c.is_ternary-then-is_ternary.ensures)
