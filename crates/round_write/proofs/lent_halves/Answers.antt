-- `round_write::lent_halves` meets its contract. Assumes nothing.
use mathlib.Core.Path.{ap, ◌∙◌}
use Prim.Native.Nat.{◌*◌}
use native.Mathlib.Omega.{arith}
use Rattle.codec.specs.Bytes.{Octets, put}
use Rattle.ring.specs.Slots.{poly}
use Rattle.commitment.proofs.Opening.{encode_bytes}
use Rattle.round_head.proofs.HeadParts.{two_behind}
use Rattle.round_write.proofs.lent_halves.Goals as goal

pub returns : goal.returns
returns c =
    let a = c.args in
    let p = c.requires in
    let os : Octets a.s0.now = λ i _. omega (arith, c.type_inv.s0 i) in
    let oe : Octets a.e0.now = λ i _. omega (arith, c.type_inv.e0 i) in
    two_behind a.q a.n (poly a.s0.now) (poly a.e0.now) a.opening.now c.copy.new.d c.copy-2.new.d p.2
    (c.copy.ensures ∙ ap (put a.opening.now 0) (encode_bytes a.q a.n a.s0.now os p.0.sized p.0.below))
    (c.copy-2.ensures ∙ ap (put c.copy.new.d (8 * a.n)) (encode_bytes a.q a.n a.e0.now oe p.1.sized p.1.below))
