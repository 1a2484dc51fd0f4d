-- `round_side::splits` meets its contract. Assumes nothing.
use Prim.Native.Nat.{◌-◌, ◌*◌}
use native.Mathlib.Omega.{arith}
use Rattle.round.proofs.Cut.{b_lent}
use Rattle.round_side.proofs.Parts.{lent_on, split_lent}
use Rattle.round_side.proofs.splits.Goals as goal

pub adds-requires : goal.adds-requires
adds-requires c =
    let a = c.args in
    let p = c.requires in
    let n = a.k.ring in
    (lent_on a.head.now 0 (8 * n - 0) (omega arith) p.1.b0, lent_on a.head.now (8 * n) (16 * n - 8 * n) (omega arith) p.1.b1, b_lent a.k a.public.now p.0, p.2)

pub returns : goal.returns
returns c = let a = c.args in (split_lent a.k a.public.now a.head.now c.requires.1 c.adds.ensures.0, c.adds.ensures.1)
