-- `ring::combine_lent` meets its contract. Assumes nothing.
use Rattle.std.proofs.Common.{◌≡◌, ◌∙◌, ℕ, ◌+◌, ◌*◌, ◌%◌, ap₂, arith}
use Rattle.ring.proofs.Filling.{filled_none, filled_more, filled_stored, read_later}
use Rattle.ring.specs.Internal.{sign}
use Rattle.ring.specs.Poly.{plus, scale, modulo}
use Rattle.ring.specs.Slots.{poly, slot}
use Rattle.ring.proofs.combine_lent.Goals.{After-read64-y}
use Rattle.ring.proofs.combine_lent.Goals as goal

x-is : (c : After-read64-y) → c.read64-x.result ≡ slot c.args.work.now c.args.at c.loop-i.i
x-is c = c.read64-x.ensures ∙ read_later _ _ _ c.loop-i.i c.loop-i.work c.loop-i.invariant (omega arith) c.args.at c.loop-i.i (omega arith)

y-is : (c : After-read64-y) → c.read64-y.result ≡ poly c.args.a.now c.loop-i.i
unfolding poly
y-is c = c.read64-y.ensures

pub combine-requires : goal.combine-requires
combine-requires c =
    let p = c.requires in
    let s = (goal.at.combine-requires c).After-read64-y in
    (rw (x-is s) (p.3.at c.loop-i.i (omega arith)), rw (y-is s) (p.4.at c.loop-i.i (omega arith)), omega arith)

pub loop-i-init : goal.loop-i-init
loop-i-init c = filled_none _ _ _

pub loop-i-preserved : goal.loop-i-preserved
unfolding modulo plus scale
loop-i-preserved c =
    let a = c.args in
    let s = (goal.at.loop-i-preserved c).After-read64-y in
    let is = c.combine.ensures ∙ ap₂ (λ (x y : ℕ). (x + sign a.q a.minus * y) % a.q) (x-is s) (y-is s) in
    filled_more _ _ _ _ _ _ _ c.loop-i.invariant (omega arith) is c.write64.ensures

pub returns : goal.returns
returns c = filled_stored _ _ _ _ c.loop-i.invariant (omega arith)
