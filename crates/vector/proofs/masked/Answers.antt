-- `vector::masked` meets its contract. Assumes nothing.
use mathlib.Core.Path.{refl, ap, ◌∙◌}
use Prim.Native.Nat.{ℕ, ◌<◌}
use native.Mathlib.Omega.{arith}
use lib.ListN.{length}
use Rattle.modular.specs.Modulo.{remainder}
use Rattle.modular.proofs.Centring.{remainder_lt}
use Rattle.ring.specs.Ternary.{meaning}
use Rattle.vector.specs.Permutation.{extend}
use Rattle.vector.proofs.Balance.{length_extend_le}
use Rattle.vector.proofs.Gathers.{component_lt, sum_at}
use Rattle.vector.proofs.masked.Goals as goal

pub add-requires : goal.add-requires
add-requires c =
    let a = c.args in
    let u : c.from_ternary-u.result < a.q = rw c.from_ternary-u.ensures (remainder_lt a.q (meaning c.extended-b.result) (omega arith)) in
    let v : c.component-v.result < a.q = rw c.component-v.ensures (component_lt a.r.now a.q a.j c.requires.lt_q.3 (omega arith)) in
    (u, v, omega arith)

pub returns : goal.returns
returns c =
    let a = c.args in
    let x = a.x.now in
    c.add.ensures
    ∙ sum_at a.q (extend (length x) x) a.r.now a.j _ _ (omega (arith, length_extend_le (length x) x refl)) (omega arith) (c.from_ternary-u.ensures ∙ ap (λ (b : ℕ). remainder a.q (meaning b)) c.extended-b.ensures) c.component-v.ensures
