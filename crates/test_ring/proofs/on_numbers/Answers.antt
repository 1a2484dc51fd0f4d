-- `test_ring::on_numbers` meets its contract. Assumes nothing.
use native.Mathlib.Nat.{le_of_lt, mod-lt}
use native.Mathlib.Omega.{arith}
use borrow.Author.Tests.{ne_eqb}
use Rattle.modular.proofs.Centring.{centre_size, remainder_lt}
use Rattle.modular.specs.Modulo.{centre}
use Rattle.test_ring.specs.Calls.{on_numbers}
use Rattle.test_ring.proofs.on_numbers.Goals as goal

pub returns-in-0 : goal.returns-in-0
unfolding on_numbers
returns-in-0 c = (rw c.in-0.is c.add.ensures, rw c.add.ensures (le_of_lt (mod-lt _ (omega arith))))

pub returns-in-1 : goal.returns-in-1
unfolding on_numbers
returns-in-1 c = (rw c.in-1.is c.subtract.ensures, rw c.subtract.ensures (le_of_lt (mod-lt _ (omega arith))))

pub returns-in-2 : goal.returns-in-2
unfolding on_numbers
returns-in-2 c = (rw c.in-2.is c.multiply.ensures, rw c.multiply.ensures (le_of_lt (mod-lt _ (omega arith))))

pub returns-in-3 : goal.returns-in-3
unfolding on_numbers
returns-in-3 c = (rw c.in-3.is c.negate.ensures, rw c.negate.ensures (le_of_lt (mod-lt _ (omega arith))))

pub returns-in-4 : goal.returns-in-4
unfolding on_numbers
returns-in-4 c = (rw c.in-4.is c.size.ensures, rw c.size.ensures (let l = centre_size c.args.q c.args.x (omega arith) (omega arith) in omega arith))

pub returns-in_default : goal.returns-in_default
unfolding on_numbers
returns-in_default c =
    let a = c.args in
    (rw (ne_eqb a.operation 0 (omega arith), ne_eqb a.operation 1 (omega arith), ne_eqb a.operation 2 (omega arith), ne_eqb a.operation 3 (omega arith), ne_eqb a.operation 4 (omega arith)) c.residue.ensures, rw c.residue.ensures (let l = remainder_lt 2 (centre a.q a.x) (omega arith) in omega arith))
