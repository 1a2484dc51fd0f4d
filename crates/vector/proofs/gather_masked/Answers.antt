-- `vector::gather_masked` meets its contract. Assumes nothing.
use Prim.Native.Nat.{◌<◌}
use native.Mathlib.Omega.{arith}
use lib.ListN.{length}
use Rattle.ring.proofs.Filling.{filled_none, filled_more}
use Rattle.vector.specs.Vector.{vector, ternaries, add}
use Rattle.vector.specs.Permutation.{entries, extend}
use Rattle.vector.proofs.Vectors.{length_entries, length_apply}
use Rattle.vector.proofs.Gathers.{laid, entry_lt, gathered}
use Rattle.vector.proofs.gather_masked.Goals as goal

pub masked-v-requires : goal.masked-v-requires
masked-v-requires c =
    let a = c.args in
    let h : c.entry.result < a.n = rw c.entry.ensures (entry_lt a.p.now a.n c.loop-i.i c.requires.p_len.2 (omega arith)) in
    let p = c.requires in
    record { x_bound = (omega arith, p.n_value.1, p.n_value.2, omega arith); lt_q = (omega arith, omega arith, omega arith, p.lt_q.3) }

pub loop-i-preserved : goal.loop-i-preserved
loop-i-preserved c =
    let a = c.args in
    let l = c.loop-i in
    filled_more _ _ _ _ _ _ _ l.invariant (omega arith) (gathered (entries a.p.now) (add a.q (ternaries a.q (extend (length a.x.now) a.x.now)) (vector a.r.now)) l.i _ _ (omega (arith, length_entries a.p.now)) c.entry.ensures c.masked-v.ensures) c.write64.ensures

pub returns : goal.returns
returns c =
    let a = c.args in
    laid a.work.now a.at _ c.loop-i.invariant (omega (arith, length_apply (entries a.p.now) (add a.q (ternaries a.q (extend (length a.x.now) a.x.now)) (vector a.r.now)), length_entries a.p.now))

pub loop-i-init : goal.loop-i-init
loop-i-init c = filled_none _ _ _
