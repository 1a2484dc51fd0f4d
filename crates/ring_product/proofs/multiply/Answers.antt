-- `ring_product::multiply` meets its contract. Assumes nothing.
use native.Mathlib.Omega.{arith}
use Rattle.ring.specs.Poly.{mul}
use Rattle.ring.specs.Slots.{poly, slot}
use Rattle.ring.specs.Internal.{store}
use Rattle.ring.proofs.Bridge.{length_store}
use Rattle.ring_product.proofs.Wiped.{wiped}
use Rattle.ring_product.proofs.multiply.Goals as goal

pub returns-in-Some : goal.returns-in-Some
returns-in-Some c =
    let a = c.args in
    let d = store a.q a.n a.work.now a.at (mul a.q a.n (slot a.work.now a.at) (poly a.a.now)) in
    wiped a.n a.room d c.multiply.new.work (omega (arith, length_store a.q a.n a.work.now a.at (mul a.q a.n (slot a.work.now a.at) (poly a.a.now)) (omega arith)))
    c.multiply.ensures c.wipe.new.d c.wipe.ensures
