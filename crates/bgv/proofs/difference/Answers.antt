-- `bgv::difference` meets its contract. Assumes nothing.
use native.Mathlib.Omega.{arith}
use Rattle.ring.specs.Slots.{poly}
use Rattle.ring.specs.Ternary.{ternary}
use Rattle.scratch.proofs.Loads.{ternary_load, loaded_asks, subtracted}
use Rattle.bgv.proofs.difference.Goals as goal

pub subtract-requires : goal.subtract-requires
subtract-requires c =
    let a = c.args in
    let p = c.requires in
    let w1 = c.load_ternary.new.work in
    let r = p.0.ring_high in
    let x = ternary_load a.q a.n p.0.ring_high p.0.modulus_low p.0.modulus_high a.work.now w1 a.at p.1 (omega arith) a.x.now p.2 c.load_ternary.ensures in
    let h = loaded_asks a.q a.n p.0.ring_high p.0.modulus_low p.0.modulus_high a.at (ternary a.q a.x.now) a.work.now w1 p.1 (omega arith) x in
    (p.0.modulus_high, h.0, omega (arith, p.0.sized), h.1, p.0.below)

pub returns : goal.returns
returns c =
    let a = c.args in
    let p = c.requires in
    let w1 = c.load_ternary.new.work in
    let r = p.0.ring_high in
    let x = ternary_load a.q a.n p.0.ring_high p.0.modulus_low p.0.modulus_high a.work.now w1 a.at p.1 (omega arith) a.x.now p.2 c.load_ternary.ensures in
    subtracted a.q a.n p.0.ring_high p.0.modulus_low p.0.modulus_high a.at (ternary a.q a.x.now) (poly a.x0.now) a.work.now w1 c.subtract.new.work p.1 (omega arith) x c.subtract.ensures
