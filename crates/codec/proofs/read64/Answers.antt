-- `codec::read64` meets its contract. Assumes nothing.
use mathlib.Core.Path.{◌∙◌}
use Rattle.codec.proofs.Numbers.{from_part}
use Rattle.codec.proofs.read64.Goals as goal

pub returns : goal.returns
returns c = c.from_le_bytes.ensures ∙ from_part c.args.s.now c.args.at 7 c.requires c.array.ensures
