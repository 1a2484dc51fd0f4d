-- `register::is_standing` meets its contract. Assumes nothing.
use borrow.Author.Rules.{rules}
use Rattle.register.specs.Register as def
use Rattle.register.proofs.is_standing.Goals as goal

pub returns : goal.returns
unfolding def.state_at
returns c = search rules
