-- `plain` meets its contract. Assumes nothing.
use mathlib.Core.Path.{◌≡◌, ap, ◌∙◌}
use Prim.Native.Nat.{◌+◌, ◌-◌, ◌*◌}
use native.Mathlib.Omega.{arith}
use lib.ListN.{length, length-replicate}
use Rattle.codec.proofs.Laws.{length_part, put_between}
use Rattle.codec.specs.Bytes.{zeros, put, part}
use Rattle.ring_product.proofs.Steps.{copied, below_room, multiplied}
use Rattle.ring.specs.Slots.{poly}
use Rattle.ring_product.proofs.plain.Goals as goal

pub copy_slot-requires : goal.copy_slot-requires
copy_slot-requires c =
    let a = c.args in
    let p = c.requires in
    rw c.mirror.ensures (copied a.q a.n a.work.now a.at a.room (poly a.a.now) (omega arith) (omega arith) (omega arith) (omega arith) p.below.0)

pub products-requires : goal.products-requires
products-requires c =
    let a = c.args in
    let p = c.requires in
    (omega arith, omega arith, omega arith, omega arith, omega arith, below_room a.q a.n a.work.now a.at a.room (poly a.a.now) (omega arith) (omega arith) (omega arith) (omega arith) p.below.0 _ _ c.mirror.ensures c.copy_slot.ensures)

pub returns : goal.returns
returns c =
    let a = c.args in
    let p = c.requires in
    let w = c.products.new.work in
    let t = c.wipe.new.d in
    let l : length (part w a.room (a.room + 24 * a.n - a.room)) ≡ 24 * a.n = length_part w a.room (a.room + 24 * a.n - a.room) (omega arith) ∙ omega arith in
    let e : t ≡ zeros (24 * a.n) = c.wipe.ensures ∙ ap zeros l in
    put_between w t a.room (a.room + 24 * a.n) (omega arith) (ap length e ∙ length-replicate (24 * a.n) 0 ∙ omega arith) ∙ ap (put w a.room) e
    ∙ multiplied a.q a.n a.work.now a.at a.room (poly a.a.now) (omega arith) (omega arith) (omega arith) (omega arith) p.below.0 _ _ c.mirror.ensures c.copy_slot.ensures w c.products.ensures
