-- `bgv::load_bytes` meets its contract. Assumes nothing.
use native.Mathlib.Omega.{arith}
use Rattle.ring.proofs.Filling.{filled_none, filled_more, filled_whole}
use Rattle.bgv.proofs.load_bytes.Goals as goal

pub loop-i-init : goal.loop-i-init
loop-i-init c = filled_none _ _ _

pub loop-i-preserved : goal.loop-i-preserved
loop-i-preserved c = filled_more _ _ _ _ _ _ _ c.loop-i.invariant (omega arith) c.from.ensures c.write64.ensures

pub returns : goal.returns
returns c = filled_whole _ _ _ c.loop-i.invariant (omega arith)
