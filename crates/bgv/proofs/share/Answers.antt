-- `bgv::share` meets its contract. Assumes nothing.
use native.Mathlib.Omega.{arith}
use Rattle.ring.specs.Slots.{poly}
use Rattle.ring.proofs.Polynomials.{alike_eq}
use Rattle.scratch.proofs.Slots.{stands_alike}
use Rattle.bgv.specs.Scheme.{residues}
use Rattle.bgv.specs.Scheme.{lent_mask}
use Rattle.bgv.proofs.Form.{noisy_either}
use Rattle.scratch.proofs.Loads.{both_asks, lent_load, residues_load, loaded_length}
use Rattle.bgv.proofs.Steps.{stands_noisy}
use Rattle.bgv.proofs.share.Goals as goal

pub combine-requires : goal.combine-requires
combine-requires c =
    let a = c.args in
    let p = c.requires in
    let w1 = c.copy.new.d in
    let w2 = c.load_mask.new.work in
    let x = lent_load a.q a.n p.0.ring_high p.0.modulus_low p.0.modulus_high a.work.now w1 0 p.3 (omega (arith, p.0.ring_high)) a.s.now p.0.sized p.0.below c.copy.ensures in
    let y = residues_load a.q a.n p.0.ring_high p.0.modulus_low p.0.modulus_high w1 w2 16384 (loaded_length a.q a.n p.0.ring_high p.0.modulus_low p.0.modulus_high (poly a.s.now) a.work.now w1 p.3 x) (omega (arith, p.0.ring_high)) (lent_mask a.mask.now) c.load_mask.ensures in
    let h = both_asks a.q a.n p.0.ring_high p.0.modulus_low p.0.modulus_high (poly a.s.now) (residues a.q (lent_mask a.mask.now)) a.work.now w1 w2 p.3 x y in
    record { polynomial = (p.1, h.0, p.4); below = (h.1, h.2) }

pub returns : goal.returns
returns c =
    let a = c.args in
    let p = c.requires in
    let w1 = c.copy.new.d in
    let w2 = c.load_mask.new.work in
    let x = lent_load a.q a.n p.0.ring_high p.0.modulus_low p.0.modulus_high a.work.now w1 0 p.3 (omega (arith, p.0.ring_high)) a.s.now p.0.sized p.0.below c.copy.ensures in
    let y = residues_load a.q a.n p.0.ring_high p.0.modulus_low p.0.modulus_high w1 w2 16384 (loaded_length a.q a.n p.0.ring_high p.0.modulus_low p.0.modulus_high (poly a.s.now) a.work.now w1 p.3 x) (omega (arith, p.0.ring_high)) (lent_mask a.mask.now) c.load_mask.ensures in
    stands_alike (stands_noisy a.q a.n p.0.ring_high p.0.modulus_low p.0.modulus_high a.p (poly a.s.now) (residues a.q (lent_mask a.mask.now)) a.work.now w1 w2 p.3 x y (poly a.u.now) c.combine.new.work c.combine.ensures
    ) (alike_eq (noisy_either a.q a.n a.p (poly a.u.now) (poly a.s.now) (residues a.q (lent_mask a.mask.now))))
