-- `round_search::unknown` meets its contract. Assumes nothing.
use Prim.Native.Nat.{◌<◌}
use Rattle.round_search.proofs.Unknowns.{lt_u, lt_r, unknown_at}
use Rattle.round_search.proofs.unknown.Goals as goal

pub subtract-requires : goal.subtract-requires
subtract-requires c =
    let a = c.args in
    let p = c.requires in
    let x : c.component.result < a.q = rw c.component.ensures (lt_u a.q a.n a.u.now a.r.now p.3 a.i p.2) in
    let y : c.component-2.result < a.q = rw c.component-2.ensures (lt_r a.q a.n a.u.now a.r.now p.3 a.i p.2) in
    (x, y, p.1)

pub returns : goal.returns
returns c =
    let a = c.args in
    let p = c.requires in
    unknown_at a.q a.n a.u.now a.r.now p.3 a.i p.2 c.component.result c.component-2.result c.subtract.result c.component.ensures c.component-2.ensures c.subtract.ensures
