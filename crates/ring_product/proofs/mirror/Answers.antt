-- `mirror` meets its contract. Assumes nothing.
use native.Mathlib.Omega.{arith}
use Rattle.ring.proofs.Filling.{filling_none, filling_more, filling_stored}
use Rattle.ring.specs.Poly.{modulo}
use Rattle.ring_product.proofs.mirror.Goals as goal

pub loop-j-preserved : goal.loop-j-preserved
unfolding modulo
loop-j-preserved c = filling_more c.loop-j.invariant (omega arith) (omega arith) c.mirrored-v.ensures c.write64.auto.d c.write64.ensures

pub loop-j-init : goal.loop-j-init
loop-j-init c = filling_none

pub returns : goal.returns
returns c = filling_stored _ _ c.loop-j.invariant (omega arith)
