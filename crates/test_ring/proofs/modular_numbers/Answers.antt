-- `test_ring::modular_numbers` meets its contract. Assumes nothing.
use mathlib.Core.Path.{ap}
use Prim.Native.Nat.{ℕ, ◌*◌, ◌%◌}
use native.Mathlib.Omega.{arith}
use borrow.Author.Tests.{le-ltb, lt-leb, eq-eqb}
use Rattle.codec.proofs.Replies.{order}
use Rattle.codec.specs.Reply.{first, leaves}
use Rattle.test_ring.specs.Calls.{answer, numbers_reply}
use Rattle.test_ring.proofs.modular_numbers.Goals as goal

pub overflow_mul-result : goal.overflow_mul-result
overflow_mul-result c = let l = c.on_numbers.ensures.1 in omega arith

pub returns : goal.returns
unfolding numbers_reply answer first leaves
returns c =
    let a = c.args in
    rw (le-ltb 5 a.operation c.if-operation-gt5.false, lt-leb 72057594037927936 a.q c.if-q-ge72057594037927936.false, eq-eqb (a.q % 2) 1 c.if-q-ne1.false, lt-leb a.q a.x c.if-q-x.false, lt-leb a.q a.y c.if-q-y.false) (ap (λ (v : ℕ). 256 * v) c.on_numbers.ensures.0)

pub returns-then-operation-gt5 : goal.returns-then-operation-gt5
unfolding numbers_reply answer first leaves
returns-then-operation-gt5 c = grind (arith, order, c.then-operation-gt5.either)

pub returns-then-q-ne1 : goal.returns-then-q-ne1
unfolding numbers_reply answer first leaves
returns-then-q-ne1 c = search order

pub returns-then-q-x : goal.returns-then-q-x
unfolding numbers_reply answer first leaves
returns-then-q-x c = grind (arith, order, c.then-q-x.either)
