-- `sponge::xor_byte` meets its contract. Assumes nothing.
use Rattle.sha3.specs.Absorb.{xor_byte}
use Rattle.sha3.proofs.sponge.xor_byte.Goals as goal

pub returns : goal.returns
unfolding xor_byte
returns c = rw c.xor_lane-l.ensures
