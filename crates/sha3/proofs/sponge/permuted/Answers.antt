-- `sponge::permuted` meets its contract. Assumes nothing.
use mathlib.Core.Path.{◌∙◌}
use Rattle.sha3.proofs.Absorbing.{zero_block}
use Rattle.sha3.proofs.sponge.permuted.Goals as goal

pub returns : goal.returns
returns c = c.absorb_blocks.ensures ∙ zero_block c.args.s
