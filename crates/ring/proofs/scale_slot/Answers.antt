-- `ring::scale_slot` meets its contract. Assumes nothing.
use Rattle.std.proofs.Common.{◌≡◌, ◌∙◌, ℕ, ◌*◌, ◌%◌, ap, arith}
use Rattle.ring.proofs.Filling.{filled_none, filled_more, filled_stored, read_later}
use Rattle.ring.specs.Poly.{scale, modulo}
use Rattle.ring.specs.Slots.{slot}
use Rattle.ring.proofs.scale_slot.Goals.{After-read64-x}
use Rattle.ring.proofs.scale_slot.Goals as goal

x-is : (c : After-read64-x) → c.read64-x.result ≡ slot c.args.work.now c.args.at c.loop-i.i
x-is c = c.read64-x.ensures ∙ read_later _ _ _ c.loop-i.i c.loop-i.work c.loop-i.invariant (omega arith) c.args.at c.loop-i.i (omega arith)

pub scaled-requires : goal.scaled-requires
scaled-requires c = (omega arith, rw (x-is (goal.at.scaled-requires c).After-read64-x) (c.requires.3.at c.loop-i.i (omega arith)), omega arith)

pub loop-i-init : goal.loop-i-init
loop-i-init c = filled_none _ _ _

pub loop-i-preserved : goal.loop-i-preserved
unfolding modulo scale
loop-i-preserved c =
    let a = c.args in
    let is = c.scaled.ensures ∙ ap (λ (x : ℕ). a.p * x % a.q) (x-is (goal.at.loop-i-preserved c).After-read64-x) in
    filled_more _ _ _ _ _ _ _ c.loop-i.invariant (omega arith) is c.write64.ensures

pub returns : goal.returns
returns c = filled_stored _ _ _ _ c.loop-i.invariant (omega arith)
