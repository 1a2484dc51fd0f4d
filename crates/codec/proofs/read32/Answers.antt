-- `codec::read32` meets its contract. Assumes nothing.
use native.Mathlib.Omega.{arith}
use Rattle.codec.proofs.Numbers.{number_join}
use Rattle.codec.proofs.read32.Goals as goal

pub returns : goal.returns
returns c = let a = c.args in omega (arith, number_join a.s.now a.at 2 2 (omega arith))
