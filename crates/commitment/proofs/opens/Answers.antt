-- `opens` meets its contract. Assumes nothing.
use mathlib.Core.Path.{sym, ◌∙◌}
use Prim.Native.Nat.{◌+◌, ◌-◌, ◌*◌}
use native.Mathlib.Omega.{arith}
use Rattle.commitment.proofs.Loading.{opens_no, opens_rest}
use Rattle.commitment.proofs.opens.Goals as goal

pub returns-then-equal : goal.returns-then-equal
returns-then-equal c =
    let a = c.args in
    let p = c.requires in
    let e = sym c.equal.ensures ∙ c.if-equal.true in (
      c.equal-then-equal.ensures
          ∙ opens_rest a.q a.n _ a.halves.now _ _ _ _ p.4 c.pair.ensures (8 * a.n - 0) (8 * a.n - 0) (16 * a.n - 8 * a.n) (49152 + 8 * a.n - 49152) (omega arith) (omega arith) (omega arith) (omega arith) e,
      c.pair.ensures.sized,
    )

pub returns-else-equal : goal.returns-else-equal
returns-else-equal c =
    let a = c.args in
    let p = c.requires in
    let e = sym c.equal.ensures ∙ c.if-equal.false in
    (c.if-equal.false ∙ opens_no a.q a.n _ a.halves.now _ _ _ _ p.4 c.pair.ensures (8 * a.n - 0) (8 * a.n - 0) (omega arith) (omega arith) e, c.pair.ensures.sized)
