-- `ring_transform::Table::untransform` meets its contract. Assumes nothing.
use Rattle.std.proofs.Common.{arith}
use Rattle.ring_transform.proofs.Nodes.{back_leaf_asked, back_leaf, back_low, back_high, back_whole_asked, back_whole}
use Rattle.ring_transform.proofs.Table.+untransform.Goals as goal

pub butterflies_back-requires : goal.butterflies_back-requires
butterflies_back-requires t c = back_leaf_asked c.requires

pub returns-then-l-eq1 : goal.returns-then-l-eq1
returns-then-l-eq1 t c = back_leaf c.requires c.if-l-eq1.true c.butterflies_back.ensures

pub untransform-requires : goal.untransform-requires
untransform-requires t c = (omega (arith, c.decreases, c.requires.deep), back_low c.requires c.if-l-eq1.false)

pub untransform-requires-2 : goal.untransform-requires-2
untransform-requires-2 t c = (omega (arith, c.decreases, c.requires.deep), back_high c.requires c.untransform.ensures c.if-l-eq1.false)

pub butterflies_back-requires-2 : goal.butterflies_back-requires-2
butterflies_back-requires-2 t c = back_whole_asked c.requires c.untransform.ensures c.untransform-2.ensures

pub returns : goal.returns
returns t c = back_whole c.requires c.untransform.ensures c.untransform-2.ensures c.butterflies_back-2.ensures
