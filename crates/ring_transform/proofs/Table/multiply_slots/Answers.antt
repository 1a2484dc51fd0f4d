-- `ring_transform::Table::multiply_slots` meets its contract. Assumes nothing.
use Prim.Native.Nat.{◌-◌, ◌^◌}
use native.Mathlib.Nat.{mod-lt}
use Rattle.ring_transform.proofs.Steps.{positive}
use Rattle.ring_transform.proofs.Stages.{room_node, pointwise_asked, values_node, scaled_asked, slots_multiplied}
use Rattle.ring_transform.proofs.Table.multiply_slots.Goals as goal

pub transform-requires-2 : goal.transform-requires-2
transform-requires-2 c = let r = c.requires in room_node r.0 r.1 r.2 c.transform.ensures

pub pointwise-requires : goal.pointwise-requires
pointwise-requires c = let r = c.requires in pointwise_asked r.0 r.1 r.2 c.transform.ensures c.transform-2.ensures

pub untransform-requires : goal.untransform-requires
untransform-requires c = let r = c.requires in values_node r.0 r.1 r.2 c.transform.ensures c.transform-2.ensures c.pointwise.ensures

pub scaled-requires : goal.scaled-requires
scaled-requires c =
    let r = c.requires in
    let s = scaled_asked r.0 r.1 r.2 c.transform.ensures c.transform-2.ensures c.pointwise.ensures c.untransform.ensures in
    (r.0.modulus, rw r.4 (mod-lt (2 ^ (112 - c.args.l)) (positive r.0.modulus)), s.0, s.1)

pub returns : goal.returns
returns c =
    let r = c.requires in
    slots_multiplied r.0 r.1 r.2 c.transform.ensures c.transform-2.ensures c.pointwise.ensures c.untransform.ensures c.args.h c.scaled.ensures r.3 r.4 r.5

pub transform-requires : goal.transform-requires
transform-requires c = c.requires.0
