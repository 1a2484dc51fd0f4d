-- `bgv::less_product` meets its contract. Assumes nothing.
use native.Mathlib.Omega.{arith}
use mathlib.Core.Path.{refl}
use Rattle.ring.specs.Slots.{poly, slot}
use Rattle.scratch.proofs.Slots.{holds_slot}
use Rattle.scratch.proofs.Loads.{product_asks, add_lent_asks, stands_less_product}
use Rattle.bgv.proofs.less_product.Goals as goal

pub scale_slot-requires : goal.scale_slot-requires
scale_slot-requires c =
    let a = c.args in
    let p = c.requires in
    let h = product_asks a.q a.n p.0.ring_high p.0.modulus_low p.0.modulus_high a.work.now (poly a.u.now) p.2 c.multiply.new.work c.multiply.ensures in
    (omega (arith, p.0.modulus_low), p.0.modulus_high, omega (arith, h.0), h.1)

pub add-requires : goal.add-requires
add-requires c =
    let a = c.args in
    let p = c.requires in
    let h = add_lent_asks a.q a.n p.0.ring_high p.0.modulus_low p.0.modulus_high a.work.now (poly a.u.now) p.2 c.multiply.new.work c.multiply.ensures c.scale_slot.new.work c.scale_slot.ensures in
    (p.0.modulus_high, omega (arith, h.0), omega (arith, p.1.sized), h.1, p.1.below)

pub returns : goal.returns
returns c =
    let a = c.args in
    let p = c.requires in
    stands_less_product a.q a.n p.0.ring_high p.0.modulus_low p.0.modulus_high a.work.now (poly a.u.now) p.2 c.multiply.new.work c.multiply.ensures c.scale_slot.new.work c.scale_slot.ensures
    (slot a.work.now 0) (poly a.v.now) a.work.now c.add.new.work refl (holds_slot a.work.now p.3) c.add.ensures
