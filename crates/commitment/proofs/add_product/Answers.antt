-- `add_product` meets its contract. Assumes nothing.
use native.Mathlib.Omega.{arith}
use Rattle.ring.specs.Slots.{poly}
use Rattle.commitment.proofs.Steps.{add_asks, product_added}
use Rattle.commitment.proofs.add_product.Goals as goal

pub add_slot-requires : goal.add_slot-requires
add_slot-requires c =
    let a = c.args in
    let p = c.requires in
    let h = p.0.ring_high in
    let s = p.0.modulus_low in
    let r = add_asks a.q a.n h (omega arith) p.0.modulus_high a.work.now a.to a.from (poly a.a.now) p.1 p.2 p.3 p.4 c.multiply.new.work c.multiply.ensures p.5 in
    (p.0.modulus_high, r.0, r.1, r.2)

pub returns : goal.returns
returns c =
    let a = c.args in
    let p = c.requires in
    let h = p.0.ring_high in
    let s = p.0.modulus_low in
    product_added a.q a.n h (omega arith) p.0.modulus_high a.work.now a.to a.from (poly a.a.now) p.1 p.2 p.3 p.4 c.multiply.new.work c.multiply.ensures _ c.add_slot.ensures
