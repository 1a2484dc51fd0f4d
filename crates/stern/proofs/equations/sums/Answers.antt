-- `equations::sums` meets its contract. Assumes nothing.
use Prim.Native.Nat.{◌<◌}
use native.Mathlib.Omega.{arith}
use Rattle.codec.specs.Bytes.{Octets}
use Rattle.stern.proofs.Pairs.{sums_ask, sums_made}
use Rattle.stern.proofs.equations.sums.Goals as goal

pub commit-requires : goal.commit-requires
commit-requires c =
    let a = c.args in
    let p = c.requires in
    let t = p.0.one.modulus_low in
    let z : 0 < a.q = omega arith in
    let o : Octets a.x.now = λ i l. omega (arith, c.type_inv.x i) in
    let h = sums_ask a.q a.n p.0.one.ring_high z p.0.one.modulus_high a.work.now _ _ _ _ a.x.now a.first a.message p.1 p.3 p.4 o c.load_sum.ensures c.load_sum-2.ensures c.load_sum-3.ensures c.copy.ensures in
    record { public_keys = (p.0, h.0); below = h.1 }

pub returns : goal.returns
returns c =
    let a = c.args in
    let p = c.requires in
    let t = p.0.one.modulus_low in
    let z : 0 < a.q = omega arith in
    let o : Octets a.x.now = λ i l. omega (arith, c.type_inv.x i) in
    sums_made a.q a.n p.0.one.ring_high z p.0.one.modulus_high a.work.now _ _ _ _ a.x.now a.first a.message p.1 p.3 p.4 o c.load_sum.ensures c.load_sum-2.ensures c.load_sum-3.ensures c.copy.ensures _ _ c.commit.ensures
