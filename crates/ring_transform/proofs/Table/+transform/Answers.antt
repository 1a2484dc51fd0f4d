-- `ring_transform::Table::transform` meets its contract. Assumes nothing.
use Rattle.std.proofs.Common.{arith}
use Rattle.ring_transform.proofs.Nodes.{level_asked, node_leaf, node_low, node_high, node_whole}
use Rattle.ring_transform.proofs.Table.+transform.Goals as goal

pub butterflies-requires : goal.butterflies-requires
butterflies-requires t c = level_asked c.requires

pub returns-then-l-eq1 : goal.returns-then-l-eq1
returns-then-l-eq1 t c = node_leaf c.requires c.butterflies.ensures c.if-l-eq1.true

pub transform-requires : goal.transform-requires
transform-requires t c = (omega (arith, c.decreases, c.requires.deep), node_low c.requires c.butterflies.ensures c.if-l-eq1.false)

pub transform-requires-2 : goal.transform-requires-2
transform-requires-2 t c = (omega (arith, c.decreases, c.requires.deep), node_high c.requires c.butterflies.ensures c.transform.ensures c.if-l-eq1.false)

pub returns : goal.returns
returns t c = node_whole c.requires c.butterflies.ensures c.transform.ensures c.transform-2.ensures
