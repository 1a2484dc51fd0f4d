-- `bgv::rebuilt` meets its contract. Assumes nothing.
use native.Mathlib.Omega.{arith}
use Rattle.ring.specs.Slots.{poly}
use Rattle.scratch.proofs.Loads.{head_asks, less_asks, stands_less_twice, lent_load}
use Rattle.bgv.specs.Scheme.{rebuilt}
use Rattle.bgv.proofs.rebuilt.Goals as goal

pub subtract-requires : goal.subtract-requires
subtract-requires c =
    let a = c.args in
    let p = c.requires in
    let w1 = c.copy.new.d in
    let x = lent_load a.q a.n p.0.ring_high p.0.modulus_low p.0.modulus_high a.work.now w1 0 p.3 (omega (arith, p.0.ring_high)) a.v.now p.0.sized p.0.below c.copy.ensures in
    let h = head_asks a.q a.n p.0.ring_high p.0.modulus_low p.0.modulus_high (poly a.v.now) a.work.now w1 p.3 x in
    (p.0.modulus_high, omega (arith, h.0), omega (arith, p.1.sized), h.1, p.1.below)

pub subtract-requires-2 : goal.subtract-requires-2
subtract-requires-2 c =
    let a = c.args in
    let p = c.requires in
    let w1 = c.copy.new.d in
    let x = lent_load a.q a.n p.0.ring_high p.0.modulus_low p.0.modulus_high a.work.now w1 0 p.3 (omega (arith, p.0.ring_high)) a.v.now p.0.sized p.0.below c.copy.ensures in
    let h = less_asks a.q a.n p.0.ring_high p.0.modulus_low p.0.modulus_high (poly a.v.now) a.work.now w1 p.3 x (poly a.t0.now) c.subtract.new.work c.subtract.ensures in
    (p.0.modulus_high, omega (arith, h.0), omega (arith, p.2.sized), h.1, p.2.below)

pub returns : goal.returns
unfolding rebuilt
returns c =
    let a = c.args in
    let p = c.requires in
    let w1 = c.copy.new.d in
    let x = lent_load a.q a.n p.0.ring_high p.0.modulus_low p.0.modulus_high a.work.now w1 0 p.3 (omega (arith, p.0.ring_high)) a.v.now p.0.sized p.0.below c.copy.ensures in
    stands_less_twice a.q a.n p.0.ring_high p.0.modulus_low p.0.modulus_high (poly a.v.now) a.work.now w1 p.3 x (poly a.t0.now) c.subtract.new.work c.subtract.ensures (poly a.t1.now) c.subtract-2.new.work c.subtract-2.ensures
