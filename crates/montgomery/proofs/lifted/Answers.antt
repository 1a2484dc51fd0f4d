-- `montgomery::lifted` meets its contract. Assumes nothing.
use Rattle.std.proofs.Common.{arith}
use Rattle.montgomery.proofs.Inverses.{lift_even, lift_odd}
use Rattle.montgomery.proofs.lifted.Goals as goal

pub returns-then-digits-p-eq1 : goal.returns-then-digits-p-eq1
returns-then-digits-p-eq1 c =
    let a = c.args in
    (omega arith, lift_odd a.a a.x a.p c.requires.1 c.requires.5 (rw c.digits.ensures.0 at c.if-digits-p-eq1.true))

pub returns-else-digits-p-eq1 : goal.returns-else-digits-p-eq1
returns-else-digits-p-eq1 c =
    let a = c.args in
    (omega arith, lift_even a.a a.x a.p c.requires.5 (rw c.digits.ensures.0 at c.if-digits-p-eq1.false))
