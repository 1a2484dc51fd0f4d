-- `bgv::combine` meets its contract. Assumes nothing.
use Rattle.ring.specs.Slots.{poly}
use Rattle.scratch.proofs.Loads.{scale_asks}
use Rattle.bgv.proofs.Steps.{add_asks, combined}
use Rattle.bgv.proofs.combine.Goals as goal

pub scale_slot-requires : goal.scale_slot-requires
scale_slot-requires c =
    let a = c.args in
    let p = c.requires in
    let w1 = c.multiply.new.work in
    let e1 = c.multiply.ensures in
    let h = scale_asks a.q a.n p.polynomial.0.ring_high p.polynomial.0.modulus_low p.polynomial.0.modulus_high a.work.now (poly a.a.now) p.polynomial.1 w1 e1 p.below.1 in
    (p.polynomial.2, p.polynomial.0.modulus_high, h.0, h.1)

pub add_slot-requires : goal.add_slot-requires
add_slot-requires c =
    let a = c.args in
    let p = c.requires in
    let w1 = c.multiply.new.work in
    let e1 = c.multiply.ensures in
    let h = add_asks a.q a.n p.polynomial.0.ring_high p.polynomial.0.modulus_low p.polynomial.0.modulus_high a.p a.work.now (poly a.a.now) p.polynomial.1 w1 e1 p.below.1 c.scale_slot.new.work c.scale_slot.ensures in
    (p.polynomial.0.modulus_high, h.0, h.1, h.2)

pub returns : goal.returns
returns c =
    let a = c.args in
    let p = c.requires in
    let w1 = c.multiply.new.work in
    let e1 = c.multiply.ensures in
    combined a.q a.n p.polynomial.0.ring_high p.polynomial.0.modulus_low p.polynomial.0.modulus_high a.p a.work.now (poly a.a.now) p.polynomial.1 w1 e1 p.below.1 c.scale_slot.new.work c.scale_slot.ensures c.add_slot.new.work c.add_slot.ensures
