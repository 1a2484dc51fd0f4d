-- `writer::write_values` meets its contract. Assumes nothing.
use native.Mathlib.Omega.{arith}
use Rattle.sheet.proofs.Writing.{starts, never_over, small, at_digit, room, at_comma, at_lf}
use Rattle.sheet.proofs.writer.write_values.Goals as goal
use Rattle.sheet.proofs.writer.write_values.Goals.{in-Some, in-None+else-text-i-eq10}

pub loop-i-init : goal.loop-i-init
loop-i-init c = starts c.args.text.now c.args.at c.args.from c.args.out.now

pub overflow_mul-value : goal.overflow_mul-value
overflow_mul-value c = omega (arith, small c.requires c.loop-i.invariant c.loop-i-test.true c.in-Some.ensures.0 c.in-Some.ensures.1)

pub overflow_add-value : goal.overflow_add-value
overflow_add-value c = omega (arith, small c.requires c.loop-i.invariant c.loop-i-test.true c.in-Some.ensures.0 c.in-Some.ensures.1)

pub write64-requires : goal.write64-requires
write64-requires c = omega (arith, room c.requires c.loop-i.invariant c.loop-i-test.true c.in-None.ensures)

pub returns-then-text-i-eq10 : goal.returns-then-text-i-eq10
returns-then-text-i-eq10 c = at_lf c.requires c.loop-i.invariant c.loop-i-test.true c.in-None.ensures c.write64.ensures c.if-text-i-eq10.true

pub overflow_add-o : goal.overflow_add-o
overflow_add-o c = omega (arith, room c.requires c.loop-i.invariant c.loop-i-test.true c.in-None.ensures)

pub loop-i-preserved : goal.loop-i-preserved
loop-i-preserved c =
    elim c.match-digit_of.branch [
      | in-Some w ↦
          rw (w.out-is, w.value-is, w.o-is) (at_digit c.requires c.loop-i.invariant c.loop-i-test.true w.in-Some.ensures.0 w.in-Some.ensures.1)
      | in-None+else-text-i-eq10 w ↦
          rw (w.out-is, w.value-is, w.o-is)
          (at_comma c.requires c.loop-i.invariant c.loop-i-test.true w.in-None.ensures w.write64.ensures w.if-text-i-eq10.false)
    ]

pub returns : goal.returns
returns c = absurd (never_over c.requires c.loop-i.invariant (omega arith))
