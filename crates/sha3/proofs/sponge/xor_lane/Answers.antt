-- `sponge::xor_lane` meets its contract. Assumes nothing.
use Prim.Native.Nat.{◌*◌}
use borrow.Author.Rules.{rules}
use native.Mathlib.Omega.{arith}
use lib.Pow.{shl_exact}
use Rattle.sha3.specs.Absorb.{xor_lane}
use Rattle.sha3.proofs.sponge.xor_lane.Goals as goal

pub returns : goal.returns
unfolding xor_lane
returns c = rw (shl_exact {a = c.args.b} 8 (c.args.k * 8) 64 (search rules) (omega arith))
