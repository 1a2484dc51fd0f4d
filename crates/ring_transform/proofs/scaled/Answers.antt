-- `ring_transform::scaled` meets its contract. Assumes nothing.
use mathlib.Core.Path.{◌≡◌, ap, ◌∙◌}
use Prim.Native.Nat.{ℕ, ◌*◌, ◌%◌}
use native.Mathlib.Omega.{arith}
use Rattle.montgomery.specs.Internal.{radix_inverse}
use Rattle.ring.proofs.Filling.{filling_none, filling_more, filling_all, read_later}
use Rattle.ring.specs.Slots.{slot}
use Rattle.ring_transform.proofs.scaled.Goals.{After-read64-x}
use Rattle.ring_transform.proofs.scaled.Goals as goal

x-is : (c : After-read64-x) → let a = c.args in c.read64-x.result ≡ slot a.work.now a.at c.loop-k.k
x-is c =
    let a = c.args in
    let l = c.loop-k in
    c.read64-x.ensures ∙ read_later a.work.now a.at _ l.k l.work l.invariant.is (omega arith) a.at l.k (omega arith)

pub product-v-requires : goal.product-v-requires
product-v-requires c = let p = c.requires in (p.0, rw (x-is (goal.at.product-v-requires c).After-read64-x) (p.3.at c.loop-k.k (omega arith)), p.1)

pub loop-k-preserved : goal.loop-k-preserved
loop-k-preserved c =
    let a = c.args in
    filling_more c.loop-k.invariant (omega arith) (omega arith) (c.product-v.ensures.0 ∙ ap (λ (x : ℕ). a.h * radix_inverse a.q * x % a.q) (x-is (goal.at.loop-k-preserved c).After-read64-x))
    c.write64.auto.d c.write64.ensures

pub loop-k-init : goal.loop-k-init
loop-k-init c = filling_none

pub returns : goal.returns
returns c = filling_all c.loop-k.invariant (omega arith)
