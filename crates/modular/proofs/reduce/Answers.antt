-- `modular::reduce` meets its contract. Assumes nothing.
use Rattle.std.proofs.Common.{arith}
use Rattle.std.proofs.lemmas.Int.{to_z-of_z}
use Rattle.modular.proofs.SignedNumbers.{reduce_up, reduce_down}
use Rattle.modular.proofs.reduce.Goals as goal

pub returns-then-e-ge0 : goal.returns-then-e-ge0
returns-then-e-ge0 c = grind (arith, to_z-of_z, reduce_up)

pub returns-else-e-ge0 : goal.returns-else-e-ge0
returns-else-e-ge0 c = grind (arith, to_z-of_z, reduce_down)
