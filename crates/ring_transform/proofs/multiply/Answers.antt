-- `ring_transform::multiply` meets its contract. Assumes nothing.
use mathlib.Core.Path.{sym}
use native.Mathlib.Omega.{arith}
use Rattle.ring_transform.proofs.Ends.{length_head, loaded_at, loaded_room, wiped}
use Rattle.ring_transform.proofs.multiply.Goals as goal

pub slice_bounds-copy-end : goal.slice_bounds-copy-end
slice_bounds-copy-end c = let a = c.args in sym (length_head a.a.now a.n c.requires.transformable.3)

pub copy-requires : goal.copy-requires
copy-requires c =
    let a = c.args in
    let r = c.requires in
    omega (arith, length_head a.a.now a.n r.transformable.3, r.transformable.2)

pub multiply_slots-requires : goal.multiply_slots-requires
multiply_slots-requires c =
    let a = c.args in
    let r = c.requires in
    (loaded_at a.work.now a.at a.room a.a.now r.transformable.0 r.transformable.1 r.transformable.2 r.transformable.3 r.below.0 r.below.1 c.opposite-i.ensures c.powers.ensures c.exponent-l.ensures c.copy.ensures, loaded_room a.work.now a.at a.room a.a.now r.transformable.0 r.transformable.1 r.transformable.2 r.transformable.3 r.below.0 r.below.1 c.opposite-i.ensures c.powers.ensures c.exponent-l.ensures c.copy.ensures, r.transformable.1, r.transformable.0.root, c.power_of_two-h.ensures.0, c.exponent-l.ensures.2)

pub returns : goal.returns
returns c =
    let a = c.args in
    let r = c.requires in
    wiped a.work.now a.at a.room a.a.now r.transformable.0 r.transformable.1 r.transformable.2 r.transformable.3 r.below.0 r.below.1 c.opposite-i.ensures c.powers.ensures c.exponent-l.ensures c.copy.ensures c.multiply_slots.ensures c.wipe.new.d c.wipe.ensures
