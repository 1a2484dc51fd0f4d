-- `montgomery::opposite` meets its contract. Assumes nothing.
use Rattle.std.proofs.Common.{◌≡◌, ◌<◌, arith}
use Rattle.montgomery.proofs.Inverses.{shifted, small_power, modulus}
use Rattle.montgomery.proofs.opposite.Goals as goal

pub lifted-x-requires : goal.lifted-x-requires
lifted-x-requires c =
    let b = c.loop-bit.bit in
    let l : b < 28 = omega arith in
    let s = small_power b l in
    rw (shifted b l) (omega arith, omega (arith, c.requires.1), omega arith, omega arith, c.loop-bit.invariant.0, c.loop-bit.invariant.1)

pub returns : goal.returns
returns c =
    let e : c.loop-bit.bit ≡ 28 = omega arith in
    let i = rw e at c.loop-bit.invariant in
    modulus c.args.q c.loop-bit.x c.requires.0 c.requires.1 i.0 i.1
