-- `vector::mask` meets its contract. Assumes nothing.
use mathlib.Core.Path.{refl}
use native.Mathlib.Omega.{arith}
use lib.ListN.{length}
use Rattle.ring.proofs.Filling.{filled_none, filled_more}
use Rattle.vector.specs.Permutation.{extend}
use Rattle.vector.proofs.Balance.{length_extend_le}
use Rattle.vector.proofs.Gathers.{laid, length_sum}
use Rattle.vector.proofs.mask.Goals as goal

pub loop-i-preserved : goal.loop-i-preserved
loop-i-preserved c = filled_more _ _ _ _ _ _ _ c.loop-i.invariant (omega arith) c.masked-v.ensures c.write64.ensures

pub returns : goal.returns
returns c =
    let a = c.args in
    laid a.out.now a.at _ c.loop-i.invariant (omega (arith, length_sum a.q (extend (length a.x.now) a.x.now) a.r.now a.n (omega arith) (omega (arith, length_extend_le (length a.x.now) a.x.now refl))))

pub loop-i-init : goal.loop-i-init
loop-i-init c = filled_none _ _ _
