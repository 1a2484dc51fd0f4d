-- `bgv::noisy_lent` meets its contract. Assumes nothing.
use native.Mathlib.Omega.{arith}
use Rattle.ring.specs.Slots.{poly}
use Rattle.scratch.proofs.Loads.{both_asks, lent_load, loaded_length}
use Rattle.bgv.proofs.Steps.{stands_noisy}
use Rattle.bgv.proofs.noisy_lent.Goals as goal

pub combine-requires : goal.combine-requires
combine-requires c =
    let a = c.args in
    let p = c.requires in
    let w1 = c.copy.new.d in
    let w2 = c.copy-2.new.d in
    let x = lent_load a.q a.n p.0.ring_high p.0.modulus_low p.0.modulus_high a.work.now w1 0 p.3 (omega (arith, p.0.ring_high)) a.x.now p.1.sized p.1.below c.copy.ensures in
    let y = lent_load a.q a.n p.0.ring_high p.0.modulus_low p.0.modulus_high w1 w2 16384 (loaded_length a.q a.n p.0.ring_high p.0.modulus_low p.0.modulus_high (poly a.x.now) a.work.now w1 p.3 x) (omega (arith, p.0.ring_high)) a.y.now p.2.sized p.2.below c.copy-2.ensures in
    let h = both_asks a.q a.n p.0.ring_high p.0.modulus_low p.0.modulus_high (poly a.x.now) (poly a.y.now) a.work.now w1 w2 p.3 x y in
    record { polynomial = (p.0, h.0, p.4); below = (h.1, h.2) }

pub returns : goal.returns
returns c =
    let a = c.args in
    let p = c.requires in
    let w1 = c.copy.new.d in
    let w2 = c.copy-2.new.d in
    let x = lent_load a.q a.n p.0.ring_high p.0.modulus_low p.0.modulus_high a.work.now w1 0 p.3 (omega (arith, p.0.ring_high)) a.x.now p.1.sized p.1.below c.copy.ensures in
    let y = lent_load a.q a.n p.0.ring_high p.0.modulus_low p.0.modulus_high w1 w2 16384 (loaded_length a.q a.n p.0.ring_high p.0.modulus_low p.0.modulus_high (poly a.x.now) a.work.now w1 p.3 x) (omega (arith, p.0.ring_high)) a.y.now p.2.sized p.2.below c.copy-2.ensures in
    stands_noisy a.q a.n p.0.ring_high p.0.modulus_low p.0.modulus_high a.p (poly a.x.now) (poly a.y.now) a.work.now w1 w2 p.3 x y (poly a.a.now) c.combine.new.work c.combine.ensures
