-- `ring::in_range` meets its contract. Assumes nothing.
use Rattle.std.proofs.Common.{sym, length, ◌/◌, arith}
use borrow.Author.Count.{below_more}
use Rattle.ring.proofs.Ranges.{below_complete, not_below}
use Rattle.ring.specs.Slots.{poly}
use Rattle.ring.proofs.in_range.Goals as goal

pub returns-then-q-read64 : goal.returns-then-q-read64
unfolding poly
returns-then-q-read64 c = sym (not_below c.args.q (length c.args.s.now / 8) _ c.loop-i.i (omega arith) (omega (arith, c.read64.ensures)))

pub loop-i-preserved : goal.loop-i-preserved
unfolding poly
loop-i-preserved c = below_more _ _ c.loop-i.invariant (omega (arith, c.read64.ensures))

pub returns : goal.returns
returns c = sym (below_complete c.args.q (length c.args.s.now / 8) _ (record { at = λ k l. c.loop-i.invariant k (omega arith) }))
