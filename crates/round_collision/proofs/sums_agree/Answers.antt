-- `sums_agree` meets its contract. Assumes nothing.
use mathlib.Core.Path.{◌≡◌, sym, ◌∙◌}
use Prim.Native.Nat.{◌<◌}
use native.Mathlib.Omega.{arith}
use borrow.Author.Count.{below_more}
use lib.ListN.{get_or}
use Rattle.modular.proofs.Centring.{remainder_lt}
use Rattle.ring.specs.Ternary.{meaning}
use Rattle.vector.specs.Vector.{vector, ternaries, add}
use Rattle.vector.specs.Permutation.{entries, apply}
use Rattle.vector.proofs.Vectors.{length_entries}
use Rattle.vector.proofs.Gathers.{entry_lt, component_lt, gathered, sum_at}
use Rattle.round_collision.proofs.Agreement.{other_number, same_numbers_lem, sum_vector, permuted_vector}
use Rattle.round_collision.proofs.sums_agree.Goals as goal

pub add-sum-requires : goal.add-sum-requires
add-sum-requires c =
    let a = c.args in
    let p = c.requires in
    let i = c.loop-i.i in
    let x : c.from_ternary-x.result < a.q = rw c.from_ternary-x.ensures (remainder_lt a.q (meaning (get_or a.w.now i 0)) (omega arith)) in
    let y : c.component.result < a.q = rw c.component.ensures (component_lt a.t.now a.q i p.t_value.0 (omega arith)) in
    (x, y, omega arith)

pub component-requires-in-loop-i : goal.component-requires-in-loop-i
component-requires-in-loop-i c =
    let a = c.args in
    let i = c.loop-i.i in
    omega (arith, c.entry.ensures, entry_lt a.p.now a.n i c.requires.t_value.2 (omega arith))

pub returns-then-sum-component : goal.returns-then-sum-component
returns-then-sum-component c =
    let a = c.args in
    let p = c.requires in
    let i = c.loop-i.i in
    let x = add a.q (ternaries a.q a.w.now) (vector a.t.now) in
    let y = apply (entries a.p.now) (vector a.u.now) in
    let sum : c.add-sum.result ≡ get_or x i 0 = c.add-sum.ensures ∙ sum_at a.q a.w.now a.t.now i _ _ (omega arith) (omega arith) c.from_ternary-x.ensures c.component.ensures in
    let one = gathered (entries a.p.now) (vector a.u.now) i c.entry.result c.component-in-loop-i.result (omega (arith, length_entries a.p.now)) c.entry.ensures c.component-in-loop-i.ensures in
    other_number a.q a.n x y (omega arith) (sum_vector a.q a.n a.w.now a.t.now (omega arith) p.lt_q.2 p.lt_q.3 p.t_value.0) (permuted_vector a.q a.n a.p.now a.u.now p.lt_q.4 p.lt_q.5 p.t_value.2 p.t_value.1)
    i (λ e. c.if-sum-component.true (sum ∙ e ∙ sym one))

pub loop-i-preserved : goal.loop-i-preserved
loop-i-preserved c =
    let a = c.args in
    let i = c.loop-i.i in
    let sum = c.add-sum.ensures ∙ sum_at a.q a.w.now a.t.now i _ _ (omega arith) (omega arith) c.from_ternary-x.ensures c.component.ensures in
    let one = gathered (entries a.p.now) (vector a.u.now) i c.entry.result c.component-in-loop-i.result (omega (arith, length_entries a.p.now)) c.entry.ensures c.component-in-loop-i.ensures in
    below_more _ _ c.loop-i.invariant (sym sum ∙ c.if-sum-component.false ∙ one)

pub returns : goal.returns
returns c =
    let a = c.args in
    let p = c.requires in
    let x = add a.q (ternaries a.q a.w.now) (vector a.t.now) in
    let y = apply (entries a.p.now) (vector a.u.now) in
    same_numbers_lem a.q a.n x y (omega arith) (sum_vector a.q a.n a.w.now a.t.now (omega arith) p.lt_q.2 p.lt_q.3 p.t_value.0) (permuted_vector a.q a.n a.p.now a.u.now p.lt_q.4 p.lt_q.5 p.t_value.2 p.t_value.1)
    (λ k l. c.loop-i.invariant k (omega arith))
