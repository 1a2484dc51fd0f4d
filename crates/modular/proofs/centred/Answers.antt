-- `modular::centred` meets its contract. Assumes nothing.
use Rattle.std.proofs.Common.{arith}
use Rattle.std.proofs.lemmas.Int.{ints}
use Rattle.modular.proofs.SignedNumbers.{low_is, high_is}
use Rattle.modular.proofs.centred.Goals as goal

pub returns-then-x-q : goal.returns-then-x-q
returns-then-x-q c = let a = c.args in omega (arith, ints, low_is a.q a.x (omega arith) (omega arith))

pub returns-else-x-q : goal.returns-else-x-q
returns-else-x-q c = let a = c.args in omega (arith, ints, high_is a.q a.x (omega arith) (omega arith))
