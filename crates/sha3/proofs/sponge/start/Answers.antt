-- `sponge::start` meets its contract. Assumes nothing.
use borrow.Author.Rules.{rules}
use Rattle.sha3.specs.Absorb.{zero_state}
use Rattle.sha3.proofs.sponge.start.Goals as goal

pub returns : goal.returns
unfolding zero_state
returns c = search rules
