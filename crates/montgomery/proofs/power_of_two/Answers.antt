-- `montgomery::power_of_two` meets its contract. Assumes nothing.
use Rattle.std.proofs.Common.{◌∙◌}
use Rattle.montgomery.proofs.Inverses.{next_power}
use Rattle.montgomery.proofs.power_of_two.Goals as goal

pub loop-preserved : goal.loop-preserved
loop-preserved c = (c.corrected-r.ensures.0 ∙ next_power c.args.q c.loop.counter c.loop.invariant.0, c.corrected-r.ensures.1)
