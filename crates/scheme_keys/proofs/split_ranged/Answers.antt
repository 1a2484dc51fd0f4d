-- `split_ranged` meets its contract. Assumes nothing.
use mathlib.Core.List.{[], ◌∷◌}
use Rattle.scratch.specs.Call.{bytes_below, coefficients_below}
use Rattle.scratch.proofs.Order.{fails, goes_on}
use Rattle.scheme_keys.proofs.split_ranged.Goals as goal

pub returns-then-both_ternary : goal.returns-then-both_ternary
returns-then-both_ternary c =
    let a = c.args in
    goes_on (bytes_below 3 (a.s.now ∷ a.e.now ∷ [])) (coefficients_below a.q a.n (a.s0.now ∷ a.e0.now ∷ [])) c.both_ternary.ensures c.if-both_ternary.true c.both_in_range.ensures

pub returns-else-both_ternary : goal.returns-else-both_ternary
returns-else-both_ternary c =
    let a = c.args in
    fails (bytes_below 3 (a.s.now ∷ a.e.now ∷ [])) (coefficients_below a.q a.n (a.s0.now ∷ a.e0.now ∷ [])) c.both_ternary.ensures c.if-both_ternary.false
