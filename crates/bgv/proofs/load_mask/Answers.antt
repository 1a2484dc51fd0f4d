-- `bgv::load_mask` meets its contract. Assumes nothing.
use Rattle.ring.specs.Internal.{from_signed}
use Rattle.bgv.proofs.load_mask.Goals as goal

pub returns : goal.returns
unfolding from_signed
returns c = c.load_signed.ensures
