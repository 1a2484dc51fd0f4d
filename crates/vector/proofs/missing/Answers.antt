-- `vector::missing` meets its contract. Assumes nothing.
use native.Mathlib.Omega.{arith}
use Rattle.ring.proofs.Ranges.{count_le}
use Rattle.vector.proofs.missing.Goals as goal

pub overflow_sub-result : goal.overflow_sub-result
overflow_sub-result c = omega (arith, c.count_of.ensures, count_le 2 c.args.x.now)

pub overflow_sub-result-2 : goal.overflow_sub-result-2
overflow_sub-result-2 c = omega (arith, c.count_of-2.ensures, count_le 0 c.args.x.now)
