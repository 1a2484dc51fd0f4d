-- `pair` meets its contract. Assumes nothing.
use Prim.Native.Nat.{◌<◌}
use native.Mathlib.Omega.{arith}
use Rattle.codec.specs.Bytes.{Octets}
use Rattle.commitment.proofs.Loading.{pair_asks, pair_made}
use Rattle.commitment.proofs.pair.Goals as goal

pub commit-requires : goal.commit-requires
commit-requires c =
    let a = c.args in
    let p = c.requires in
    let t = p.1.modulus_low in
    let z : 0 < a.q = omega arith in
    let o : Octets a.m.now = λ i l. omega (arith, c.type_inv.m i) in
    let h = pair_asks a.q a.n p.1.ring_high z p.1.modulus_high a.work.now _ _ a.m.now a.r.now p.3 o p.1 c.load_three.ensures c.copy.ensures in
    record { public_keys = (p.0, h.0); below = h.1 }

pub returns : goal.returns
returns c =
    let a = c.args in
    let p = c.requires in
    let t = p.1.modulus_low in
    let z : 0 < a.q = omega arith in
    let o : Octets a.m.now = λ i l. omega (arith, c.type_inv.m i) in
    pair_made a.q a.n p.1.ring_high z p.1.modulus_high a.work.now _ _ a.m.now a.r.now p.3 o p.1 c.load_three.ensures c.copy.ensures _ _ c.commit.ensures
