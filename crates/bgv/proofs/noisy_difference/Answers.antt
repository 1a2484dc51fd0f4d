-- `bgv::noisy_difference` meets its contract. Assumes nothing.
use native.Mathlib.Omega.{arith}
use Rattle.ring.specs.Slots.{poly}
use Rattle.ring.specs.Ternary.{ternary}
use Rattle.bgv.specs.Scheme.{other}
use Rattle.scratch.proofs.Loads.{modulo_load, loaded_length, both_asks}
use Rattle.bgv.proofs.Steps.{stands_noisy}
use Rattle.bgv.proofs.noisy_difference.Goals as goal

pub combine-requires : goal.combine-requires
combine-requires c =
    let a = c.args in
    let p = c.requires in
    let r = p.0.ring_high in
    let g = other a.q (ternary a.q a.x.now) (poly a.x0.now) in
    let w1 = c.difference.new.work in
    let x = modulo_load a.q a.n p.0.ring_high p.0.modulus_low p.0.modulus_high a.work.now w1 0 g p.3 (omega arith) c.difference.ensures in
    let l = loaded_length a.q a.n p.0.ring_high p.0.modulus_low p.0.modulus_high g a.work.now w1 p.3 x in
    let h = other a.q (ternary a.q a.y.now) (poly a.y0.now) in
    let w2 = c.difference-2.new.work in
    let y = modulo_load a.q a.n p.0.ring_high p.0.modulus_low p.0.modulus_high w1 w2 16384 h l (omega arith) c.difference-2.ensures in
    let k = both_asks a.q a.n p.0.ring_high p.0.modulus_low p.0.modulus_high g h a.work.now w1 w2 p.3 x y in
    record { polynomial = (p.0, k.0, p.6); below = (k.1, k.2) }

pub returns : goal.returns
returns c =
    let a = c.args in
    let p = c.requires in
    let r = p.0.ring_high in
    let g = other a.q (ternary a.q a.x.now) (poly a.x0.now) in
    let w1 = c.difference.new.work in
    let x = modulo_load a.q a.n p.0.ring_high p.0.modulus_low p.0.modulus_high a.work.now w1 0 g p.3 (omega arith) c.difference.ensures in
    let l = loaded_length a.q a.n p.0.ring_high p.0.modulus_low p.0.modulus_high g a.work.now w1 p.3 x in
    let h = other a.q (ternary a.q a.y.now) (poly a.y0.now) in
    let w2 = c.difference-2.new.work in
    let y = modulo_load a.q a.n p.0.ring_high p.0.modulus_low p.0.modulus_high w1 w2 16384 h l (omega arith) c.difference-2.ensures in
    stands_noisy a.q a.n p.0.ring_high p.0.modulus_low p.0.modulus_high a.p g h a.work.now w1 w2 p.3 x y (poly a.a.now) c.combine.new.work c.combine.ensures
