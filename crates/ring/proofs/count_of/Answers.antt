-- `ring::count_of` meets its contract. Assumes nothing.
use Rattle.std.proofs.Common.{arith}
use Rattle.std.proofs.lemmas.Grind.{common_steps}
use Rattle.ring.proofs.Ranges.{count_is}
use Rattle.ring.proofs.count_of.Goals as goal

pub returns : goal.returns
returns c = rw (count_is c.args.v c.args.t.now) (grind (arith, common_steps))
