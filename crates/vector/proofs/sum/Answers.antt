-- `vector::sum` meets its contract. Assumes nothing.
use mathlib.Core.Path.{◌∙◌}
use Prim.Native.Nat.{◌<◌}
use native.Mathlib.Omega.{arith}
use lib.ListN.{get_or}
use Rattle.ring.proofs.Filling.{filled_none, filled_more}
use Rattle.modular.proofs.Centring.{remainder_lt}
use Rattle.ring.specs.Ternary.{meaning}
use Rattle.vector.proofs.Gathers.{laid, component_lt, sum_at, length_sum}
use Rattle.vector.proofs.sum.Goals as goal

pub add-v-requires : goal.add-v-requires
add-v-requires c =
    let a = c.args in
    let i = c.loop-i.i in
    let u : c.from_ternary-u.result < a.q = rw c.from_ternary-u.ensures (remainder_lt a.q (meaning (get_or a.w.now i 0)) (omega arith)) in
    let v : c.component.result < a.q = rw c.component.ensures (component_lt a.t.now a.q i c.requires.lt_q.2 (omega arith)) in
    (u, v, omega arith)

pub loop-i-preserved : goal.loop-i-preserved
loop-i-preserved c =
    let a = c.args in
    let l = c.loop-i in
    filled_more _ _ _ _ _ _ _ l.invariant (omega arith) (c.add-v.ensures ∙ sum_at a.q a.w.now a.t.now l.i _ _ (omega arith) (omega arith) c.from_ternary-u.ensures c.component.ensures) c.write64.ensures

pub returns : goal.returns
returns c =
    let a = c.args in
    laid a.work.now a.at _ c.loop-i.invariant (omega (arith, length_sum a.q a.w.now a.t.now a.n (omega arith) (omega arith)))

pub loop-i-init : goal.loop-i-init
loop-i-init c = filled_none _ _ _
