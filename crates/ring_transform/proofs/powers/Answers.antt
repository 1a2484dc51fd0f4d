-- `ring_transform::powers` meets its contract. Assumes nothing.
use mathlib.Core.Path.{◌∙◌}
use mathlib.Core.List.{List}
use Prim.Native.Nat.{ℕ}
use native.Mathlib.Omega.{arith}
use lib.ListN.{length-set}
use Rattle.ring_transform.specs.Internal.{Powers}
use Rattle.ring_transform.proofs.Tables.{powers_next, power_none, power_one, powers_fewer}
use Rattle.ring_transform.proofs.powers.Goals as goal

no-powers : (q w : ℕ) (p : List ℕ) → Powers q w 0 p
no-powers q w p = record { long = omega arith; each = λ k l. absurd (omega arith) }

pub extend-requires : goal.extend-requires
extend-requires c =
    let a = c.args in
    let r = c.requires in (
      r.0,
      power_one a.w r.0 c.power_of_two-2.ensures.0 c.product-z.ensures.0,
      powers_next (no-powers a.q a.w a.p.now) (omega arith) (power_none a.q a.w c.power_of_two.ensures.0),
      omega arith,
      omega arith,
      omega arith,
      simp length-set (omega arith),
      omega arith,
    )

pub extend-requires-2 : goal.extend-requires-2
extend-requires-2 c =
    let a = c.args in
    let r = c.requires in
    let t = c.extend.ensures in
    let k = c.extend.auto.p in
    (r.0, t.each 8 (omega arith), t, omega arith, omega arith, omega arith, omega (arith, k, length-set a.p.now 0 c.power_of_two.result), omega arith)

pub shape_of-p : goal.shape_of-p
shape_of-p c = c.extend-2.auto.p ∙ c.extend.auto.p ∙ length-set c.args.p.now 0 c.power_of_two.result

pub returns : goal.returns
returns c = powers_fewer (omega arith) c.extend-2.ensures
