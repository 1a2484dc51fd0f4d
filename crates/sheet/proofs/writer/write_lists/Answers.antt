-- `writer::write_lists` meets its contract. Assumes nothing.
use native.Mathlib.Omega.{arith}
use Rattle.sheet.proofs.Filling.{begins, key_fits, ready, room, goes_on, ends}
use Rattle.sheet.proofs.writer.write_lists.Goals as goal

pub loop-i-init : goal.loop-i-init
loop-i-init c = begins c.requires c.scan_lines-head.result c.scan_lines-head.ensures.told

pub overflow_add-at : goal.overflow_add-at
overflow_add-at c = omega (arith, key_fits c.requires c.loop-i.invariant (omega arith), c.key_length.ensures)

pub write_values-at-requires : goal.write_values-at-requires
write_values-at-requires c = ready c.requires c.loop-i.invariant (omega arith) c.key_length.ensures

pub overflow_mul-o : goal.overflow_mul-o
overflow_mul-o c = omega (arith, c.requires.space)

pub overflow_add-o : goal.overflow_add-o
overflow_add-o c = omega (arith, room c.requires c.loop-i.invariant c.loop-i-test.true)

pub loop-i-preserved : goal.loop-i-preserved
loop-i-preserved c = goes_on c.requires c.loop-i.invariant c.loop-i-test.true c.key_length.ensures c.write_values-at.ensures

pub returns : goal.returns
returns c = ends c.requires c.loop-i.invariant (omega arith)
