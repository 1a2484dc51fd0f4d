-- `halves::adds` meets its contract. Assumes nothing.
use mathlib.Core.Path.{ap, ◌∙◌}
use Prim.Native.Nat.{◌-◌, ◌*◌}
use native.Mathlib.Omega.{arith}
use Rattle.codec.specs.Bytes.{Octets, zeros}
use Rattle.round.proofs.Compared.{add_asks, added_length, sum_compared}
use Rattle.round_tests.proofs.halves.adds.Goals as goal

pub add-requires : goal.add-requires
add-requires c =
    let a = c.args in
    let p = c.requires in
    let o : Octets a.b0.now = λ i l. omega (arith, c.type_inv.b0 i) in
    let h = add_asks a.n a.q a.work.now c.copy.new.d a.b0.now p.3 o p.0 c.copy.ensures in
    (p.0.modulus_high, omega (arith, h.0), omega (arith, p.1.sized), h.1, p.1.below)

pub returns : goal.returns
returns c =
    let a = c.args in
    let p = c.requires in
    let o : Octets a.b0.now = λ i l. omega (arith, c.type_inv.b0 i) in
    let ob : Octets a.b.now = λ i l. omega (arith, c.type_inv.b i) in (
      c.equal-added.ensures ∙ sum_compared a.n a.q a.work.now c.copy.new.d a.b0.now p.3 o p.0 c.copy.ensures c.add.new.work a.b1.now a.b.now c.add.ensures (8 * a.n - 0) (omega arith) ob p.2,
      c.wipe.ensures ∙ ap zeros (added_length a.n a.q a.work.now c.copy.new.d a.b0.now p.3 o p.0 c.copy.ensures c.add.new.work a.b1.now a.b.now c.add.ensures),
    )
