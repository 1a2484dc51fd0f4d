-- `vector::gather` meets its contract. Assumes nothing.
use native.Mathlib.Omega.{arith}
use Rattle.ring.proofs.Filling.{filled_none, filled_more}
use Rattle.vector.specs.Vector.{vector}
use Rattle.vector.specs.Permutation.{entries}
use Rattle.vector.proofs.Vectors.{length_entries, length_apply}
use Rattle.vector.proofs.Gathers.{laid, entry_lt, gathered}
use Rattle.vector.proofs.gather.Goals as goal

pub component-y-requires : goal.component-y-requires
component-y-requires c =
    let a = c.args in
    omega (arith, c.entry-j.ensures, entry_lt a.p.now a.n c.loop-i.i c.requires.3 (omega arith))

pub loop-i-preserved : goal.loop-i-preserved
loop-i-preserved c =
    let a = c.args in
    let l = c.loop-i in
    filled_more _ _ _ _ _ _ _ l.invariant (omega arith) (gathered (entries a.p.now) (vector a.x.now) l.i _ _ (omega (arith, length_entries a.p.now)) c.entry-j.ensures c.component-y.ensures) c.write64.ensures

pub returns : goal.returns
returns c =
    let a = c.args in
    laid a.work.now a.at _ c.loop-i.invariant (omega (arith, length_apply (entries a.p.now) (vector a.x.now), length_entries a.p.now))

pub loop-i-init : goal.loop-i-init
loop-i-init c = filled_none _ _ _
