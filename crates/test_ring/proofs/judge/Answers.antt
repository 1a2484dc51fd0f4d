-- `test_ring::judge` meets its contract. Assumes nothing.
use mathlib.Core.Path.{sym}
use native.Mathlib.Omega.{arith}
use Rattle.codec.proofs.Replies.{order}
use Rattle.codec.specs.Reply.{first}
use Rattle.test_ring.specs.Calls.{polynomials_reply}
use Rattle.test_ring.proofs.judge.Goals as goal

pub returns-then-not-in_range : goal.returns-then-not-in_range
unfolding polynomials_reply first
returns-then-not-in_range c = rw (sym c.in_range.ensures, c.if-not-in_range.true) (search order)

pub returns-then-not-in_range-2 : goal.returns-then-not-in_range-2
unfolding polynomials_reply first
returns-then-not-in_range-2 c = rw (sym c.in_range.ensures, c.if-not-in_range.false, sym c.in_range-2.ensures, c.if-not-in_range-2.true) (search order)

pub returns : goal.returns
unfolding polynomials_reply first
returns c = rw (sym c.in_range.ensures, c.if-not-in_range.false, sym c.in_range-2.ensures, c.if-not-in_range-2.false) (search order)

pub returns-then-operation-gt3 : goal.returns-then-operation-gt3
unfolding polynomials_reply first
returns-then-operation-gt3 c = grind (arith, order, c.then-operation-gt3.either)

pub returns-then-work-n : goal.returns-then-work-n
unfolding polynomials_reply first
returns-then-work-n c = search order

pub returns-then-a-n : goal.returns-then-a-n
unfolding polynomials_reply first
returns-then-a-n c = search order

pub returns-then-b-n : goal.returns-then-b-n
unfolding polynomials_reply first
returns-then-b-n c = search order
