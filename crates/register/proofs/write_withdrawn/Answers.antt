-- `register::write_withdrawn` meets its contract. Assumes nothing.
use borrow.Author.Rules.{rules}
use Rattle.register.specs.Register as def
use Rattle.register.proofs.write_withdrawn.Goals as goal

pub returns : goal.returns
unfolding def.withdrawn
returns c = search rules
