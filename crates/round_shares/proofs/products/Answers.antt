-- `round_shares::products` meets its contract. Assumes nothing.
use native.Mathlib.Omega.{arith}
use Rattle.codec.specs.Bytes.{Octets}
use Rattle.round_shares.proofs.ShareSteps.{first_asks, second_asks, products_stand}
use Rattle.round_shares.proofs.products.Goals as goal

pub multiply-requires : goal.multiply-requires
multiply-requires c =
    let a = c.args in
    let p = c.requires in
    let o : Octets a.s0.now = λ i _. omega (arith, c.type_inv.s0 i) in
    let some = p.0.modulus_low in
    let high = p.0.ring_high in
    let h = first_asks a.q a.n a.work.now c.load_ternary.new.work c.copy.new.d a.s.now a.s0.now a.u.now p.0 o p.2 p.3 c.load_ternary.ensures c.copy.ensures in
    record { q_nonzero = (omega arith, p.0.modulus_high, high, omega arith, h.0, omega (arith, p.1.sized)); below = (h.1, p.1.below) }

pub multiply-requires-2 : goal.multiply-requires-2
multiply-requires-2 c =
    let a = c.args in
    let p = c.requires in
    let o : Octets a.s0.now = λ i _. omega (arith, c.type_inv.s0 i) in
    let some = p.0.modulus_low in
    let high = p.0.ring_high in
    let h = second_asks a.q a.n a.work.now c.load_ternary.new.work c.copy.new.d a.s.now a.s0.now a.u.now p.0 o p.2 p.3 c.load_ternary.ensures c.copy.ensures c.multiply.new.work c.multiply.ensures in
    record { q_nonzero = (omega arith, p.0.modulus_high, high, omega arith, h.0, omega (arith, p.1.sized)); below = (h.1, p.1.below) }

pub returns : goal.returns
returns c =
    let a = c.args in
    let p = c.requires in
    let o : Octets a.s0.now = λ i _. omega (arith, c.type_inv.s0 i) in
    products_stand a.q a.n a.work.now c.load_ternary.new.work c.copy.new.d a.s.now a.s0.now a.u.now p.0 o p.2 p.3 c.load_ternary.ensures c.copy.ensures c.multiply.new.work c.multiply.ensures c.multiply-2.new.work c.multiply-2.ensures
