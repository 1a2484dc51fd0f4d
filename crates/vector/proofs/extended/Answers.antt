-- `vector::extended` meets its contract. Assumes nothing.
use mathlib.Core.Path.{◌≡◌, ◌∙◌}
use Prim.Native.Nat.{◌+◌, ◌-◌, ◌<◌}
use native.Mathlib.Omega.{arith}
use lib.ListN.{length, get_or}
use Rattle.vector.proofs.Gathers.{if_byte, chosen, chosen_lt, extend_chosen}
use Rattle.vector.proofs.extended.Goals.{After-below-one}
use Rattle.vector.proofs.extended.Goals as goal

-- what is summed
sum_is : (c : After-below-one) → c.below-b.result + (c.below.result - c.below-2.result) + (1 - c.below-one.result) ≡ chosen (length c.args.x.now) (length c.args.x.now + c.args.minus) (length c.args.x.now + c.args.minus + c.args.zeros) c.args.j (get_or c.args.x.now c.args.j 0)
sum_is c =
    let a = c.args in
    omega (arith, c.below-b.ensures ∙ if_byte a.x.now a.j (length a.x.now) _ c.below-i.ensures, c.below.ensures, c.below-2.ensures, c.below-one.ensures)

small : (c : After-below-one) → c.below-b.result + (c.below.result - c.below-2.result) + (1 - c.below-one.result) < 256
small c =
    let a = c.args in
    let n = length a.x.now in
    rw (sum_is c) (chosen_lt n (n + a.minus) (n + a.minus + a.zeros) a.j (get_or a.x.now a.j 0) (omega arith) (omega arith) (omega (arith, c.shared_slice_known-2-1.given a.j)))

pub returns : goal.returns
returns c =
    let a = c.args in
    let n = length a.x.now in
    sum_is (goal.at.returns c).After-below-one ∙ extend_chosen a.x.now (n + a.minus) (n + a.minus + a.zeros) a.j (omega arith) (omega arith) (omega arith)
