-- `sized` meets its contract. Assumes nothing.
use Rattle.codec.specs.Bytes.{same}
use Rattle.scheme_products.proofs.sized.Goals as goal

-- the two numbers that fill up are alike
pub returns : goal.returns
unfolding same
returns c = c.sized.ensures
