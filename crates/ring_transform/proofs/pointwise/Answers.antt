-- `ring_transform::pointwise` meets its contract. Assumes nothing.
use mathlib.Core.Path.{◌≡◌, ap₂, ◌∙◌}
use Prim.Native.Nat.{ℕ, ◌*◌, ◌%◌}
use native.Mathlib.Omega.{arith}
use Rattle.montgomery.specs.Internal.{radix_inverse}
use Rattle.ring.proofs.Filling.{filling_none, filling_more, filling_all, read_later, read_other}
use Rattle.ring.specs.Slots.{slot}
use Rattle.ring_transform.proofs.pointwise.Goals.{After-read64-y}
use Rattle.ring_transform.proofs.pointwise.Goals as goal

x-is : (c : After-read64-y) → let a = c.args in c.read64-x.result ≡ slot a.work.now a.at c.loop-k.k
x-is c =
    let a = c.args in
    let l = c.loop-k in
    c.read64-x.ensures ∙ read_later a.work.now a.at _ l.k l.work l.invariant.is (omega (arith, c.requires.1.one)) a.at l.k (omega arith)

y-is : (c : After-read64-y) → let a = c.args in c.read64-y.result ≡ slot a.work.now a.from c.loop-k.k
y-is c =
    let a = c.args in
    let l = c.loop-k in
    c.read64-y.ensures ∙ read_other a.work.now a.at _ l.k l.work l.invariant.is (omega (arith, c.requires.1.one)) a.n a.from (omega arith) c.requires.1

pub product-v-requires : goal.product-v-requires
product-v-requires c =
    let p = c.requires in
    let k = c.loop-k.k in
    (p.0, rw (x-is (goal.at.product-v-requires c).After-read64-y) (p.2.at k (omega arith)), rw (y-is (goal.at.product-v-requires c).After-read64-y) (p.3.at k (omega arith)))

pub loop-k-preserved : goal.loop-k-preserved
loop-k-preserved c =
    let a = c.args in
    filling_more c.loop-k.invariant (omega arith) (omega (arith, c.requires.1.one)) (c.product-v.ensures.0 ∙ ap₂ (λ (x y : ℕ). y * radix_inverse a.q * x % a.q) (x-is (goal.at.loop-k-preserved c).After-read64-y) (y-is (goal.at.loop-k-preserved c).After-read64-y))
    c.write64.auto.d c.write64.ensures

pub loop-k-init : goal.loop-k-init
loop-k-init c = filling_none

pub returns : goal.returns
returns c = filling_all c.loop-k.invariant (omega arith)
