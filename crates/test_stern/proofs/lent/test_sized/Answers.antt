-- `lent::test_sized` meets its contract. Assumes nothing.
use Rattle.codec.specs.Bytes.{same}
use Rattle.test_stern.proofs.lent.test_sized.Goals as goal

pub returns : goal.returns
unfolding same
returns c = c.sized.ensures
