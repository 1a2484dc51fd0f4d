-- `modular::power_by` meets its contract. Assumes nothing.
use Rattle.std.proofs.Common.{◌*◌, arith}
use Rattle.modular.proofs.Powers.{power_next, no_bit, one_bit, power_last}
use Rattle.modular.proofs.power_by.Goals.{then-left-eq1, else-left-eq1}
use Rattle.modular.proofs.power_by.Goals as goal

pub loop-left-preserved : goal.loop-left-preserved
loop-left-preserved g c = λ q k ho hw m.
    let l = c.loop-left in
    let i = l.invariant q k ho hw m in
    let lower = m.below _ _ _ i.1 i.1 c.times-b.ensures in
    let is = m.is _ _ _ i.1 i.1 c.times-b.ensures in
    elim c.if-left-eq1.branch [
      | then-left-eq1 w ↦ rw w.r-is (m.below _ _ _ i.0 i.1 w.times-r.ensures, lower, power_next l.r l.b k l.left (one_bit l.r l.b k l.left w.if-left-eq1.true (m.is _ _ _ i.0 i.1 w.times-r.ensures)) is i.2)
      | else-left-eq1 w ↦ rw w.r-is (i.0, lower, power_next l.r l.b k l.left (no_bit l.r (l.b * k) l.left w.if-left-eq1.false) is i.2)
    ]

pub returns : goal.returns
returns g c = λ q k ho hw m.
    let l = c.loop-left in
    let i = l.invariant q k ho hw m in
    (i.0, power_last l.r (l.b * k) l.left (omega arith) i.2)
