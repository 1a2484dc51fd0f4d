-- `ring::load_ternary` meets its contract. Assumes nothing.
use Rattle.std.proofs.Common.{arith}
use Rattle.ring.proofs.Filling.{filled_none, filled_more, filled_whole}
use Rattle.ring.specs.Ternary.{ternary}
use Rattle.ring.proofs.load_ternary.Goals as goal

pub loop-i-init : goal.loop-i-init
loop-i-init c = filled_none _ _ _

pub loop-i-preserved : goal.loop-i-preserved
unfolding ternary
loop-i-preserved c = filled_more _ _ _ _ _ _ _ c.loop-i.invariant (omega arith) c.from_ternary.ensures c.write64.ensures

pub returns : goal.returns
returns c = filled_whole _ _ _ c.loop-i.invariant (omega arith)
