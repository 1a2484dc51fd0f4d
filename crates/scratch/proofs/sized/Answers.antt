-- `scratch::sized` meets its contract. Assumes nothing.
use Rattle.codec.specs.Bytes.{same}
use Rattle.scratch.proofs.sized.Goals as goal

pub returns : goal.returns
unfolding same
returns c = c.eq.ensures
