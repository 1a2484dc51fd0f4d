-- `round_side::opening_ranged` meets its contract. Assumes nothing.
use mathlib.Core.Path.{◌≡◌, ap, ◌∙◌}
use Prim.Native.Nat.{ℕ, ◌-◌, ◌*◌}
use native.Mathlib.Omega.{arith}
use lib.ListN.{take, drop}
use Rattle.codec.specs.Lists.{list, all_below}
use Rattle.ring.specs.Slots.{poly}
use Rattle.scratch.proofs.Order.{fails, goes_on}
use Rattle.round.specs.Round.{opening_ranged}
use Rattle.round_side.proofs.Ranged.{front_range}
use Rattle.round_side.proofs.opening_ranged.Goals.{After-in_range}
use Rattle.round_side.proofs.opening_ranged.Goals as goal

-- the two polynomials
front : (c : After-in_range) → c.in_range.result ≡ all_below c.args.k.modulus (list (2 * c.args.k.ring) (poly c.args.opening.now))
front c =
    let a = c.args in
    c.in_range.ensures ∙ front_range a.k.modulus a.opening.now (16 * a.k.ring - 0) (2 * a.k.ring) (omega arith) (omega (arith, c.requires.1))

pub returns-else-in_range : goal.returns-else-in_range
unfolding opening_ranged
returns-else-in_range c = c.if-in_range.false ∙ fails _ _ (front (goal.at.returns-else-in_range c).After-in_range) c.if-in_range.false

pub returns-then-in_range : goal.returns-then-in_range
unfolding opening_ranged
returns-then-in_range c =
    let n = c.args.k.ring in
    let e : 22 * n - 16 * n ≡ 6 * n = omega arith in
    goes_on _ _ (front (goal.at.returns-then-in_range c).After-in_range) c.if-in_range.true (c.is_ternary.ensures ∙ ap (λ (k : ℕ). all_below 3 (take k (drop (16 * n) c.args.opening.now))) e)
