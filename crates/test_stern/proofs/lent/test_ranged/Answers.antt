-- `lent::test_ranged` meets its contract. Assumes nothing.
use mathlib.Core.Path.{sym, ◌∙◌}
use mathlib.Core.Bool.{◌&&◌}
use Rattle.scratch.proofs.Order.{fails, goes_on}
use Rattle.codec.specs.Lists.{all_below}
use Rattle.vector.specs.Vector.{vector}
use Rattle.stern.specs.Shortness.{in_range}
use Rattle.test_stern.proofs.lent.test_ranged.Goals.{then-in_range, else-in_range}
use Rattle.test_stern.proofs.lent.test_ranged.Goals as goal

pub returns-then-in_range-2 : goal.returns-then-in_range-2
unfolding vector
returns-then-in_range-2 c =
    let a = c.args in
    let k = all_below a.q (vector a.keys.now) in
    let b = all_below a.q (vector a.pairs.now) in
    let i = in_range a.q a.n a.challenge a.answer.now in
    elim c.if-in_range.branch [
      | then-in_range w ↦ goes_on k (b && i) c.in_range.ensures w.if-in_range.true (goes_on b i w.in_range-then-in_range.ensures (sym w.value-is ∙ c.if-in_range-2.true) c.answer_ranged.ensures)
      | else-in_range w ↦ cc (w.value-is, c.if-in_range-2.true)
    ]

pub returns-else-in_range-2 : goal.returns-else-in_range-2
unfolding vector
returns-else-in_range-2 c =
    let a = c.args in
    let k = all_below a.q (vector a.keys.now) in
    let b = all_below a.q (vector a.pairs.now) in
    let i = in_range a.q a.n a.challenge a.answer.now in
    c.if-in_range-2.false ∙ elim c.if-in_range.branch [
      | then-in_range w ↦ goes_on k (b && i) c.in_range.ensures w.if-in_range.true (fails b i w.in_range-then-in_range.ensures (sym w.value-is ∙ c.if-in_range-2.false))
      | else-in_range w ↦ fails k (b && i) c.in_range.ensures w.if-in_range.false
    ]
