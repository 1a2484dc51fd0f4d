-- `round_search::excess` meets its contract. Assumes nothing.
use Prim.Native.Nat.{◌+◌, ◌<◌}
use native.Mathlib.Nat.{mod-lt}
use native.Mathlib.Omega.{arith}
use lib.ListN.{get_or}
use Rattle.modular.proofs.Centring.{remainder_lt}
use Rattle.ring.specs.Ternary.{meaning}
use Rattle.round_search.specs.Internal.{unknowns_of}
use Rattle.round_search.proofs.Unknowns.{excess_at}
use Rattle.round_search.proofs.excess.Goals as goal

pub add-opened-requires : goal.add-opened-requires
add-opened-requires c =
    let a = c.args in
    let p = c.requires in
    let some = p.1 in
    let x : c.from_ternary-x.result < a.q = rw c.from_ternary-x.ensures (remainder_lt a.q (meaning (get_or a.r0.now a.i 0)) (omega arith)) in
    let y : c.from_ternary-y.result < a.q = rw c.from_ternary-y.ensures (remainder_lt a.q (meaning (get_or a.r1.now a.i 0)) (omega arith)) in
    (x, y, p.2)

pub subtract-requires : goal.subtract-requires
subtract-requires c =
    let a = c.args in
    let p = c.requires in
    let some = p.1 in
    let x : c.add-opened.result < a.q = rw c.add-opened.ensures (mod-lt (c.from_ternary-x.result + c.from_ternary-y.result) (omega arith)) in
    let y : c.add-found.result < a.q = rw c.add-found.ensures (mod-lt (c.unknown-v.result + c.unknown-w.result) (omega arith)) in
    (x, y, p.2)

pub returns : goal.returns
returns c =
    let a = c.args in
    excess_at a.q a.n a.r0.now a.r1.now (unknowns_of a.q a.n a.u.now a.r.now) a.first a.i c.from_ternary-x.result c.from_ternary-y.result c.add-opened.result c.unknown-v.result c.unknown-w.result c.add-found.result c.subtract.result
    c.from_ternary-x.ensures c.from_ternary-y.ensures c.add-opened.ensures c.unknown-v.ensures.0 c.unknown-w.ensures.0 c.add-found.ensures c.subtract.ensures
