-- `ring_transform::extend` meets its contract. Assumes nothing.
use mathlib.Core.Path.{◌≡◌, ap, ◌∙◌}
use Prim.Native.Nat.{ℕ, ◌+◌, ◌-◌, ◌*◌, ◌^◌, ◌%◌}
use native.Mathlib.Nat.{mod-lt}
use native.Mathlib.Omega.{arith}
use Rattle.ring_transform.proofs.Steps.{positive, root_below}
use Rattle.ring_transform.proofs.Tables.{powers_next, powers_product, powers_fewer}
use Rattle.ring_transform.proofs.extend.Goals as goal

pub product-requires : goal.product-requires
product-requires c =
    let a = c.args in
    let r = c.requires in
    let l = c.loop-k in
    (r.0, root_below (l.k - a.step) r.0 l.invariant (omega arith), rw r.1 (mod-lt (a.w ^ a.step * 72057594037927936) (positive r.0)))

pub loop-k-preserved : goal.loop-k-preserved
loop-k-preserved c =
    let a = c.args in
    let r = c.requires in
    let l = c.loop-k in
    let place : a.step + (l.k - a.step) ≡ l.k = omega arith in
    powers_next l.invariant (omega arith) (powers_product a.w a.step (l.k - a.step) r.0 r.1 (l.invariant.each (l.k - a.step) (omega arith)) c.product.ensures.0 ∙ ap (λ (n : ℕ). a.w ^ n * 72057594037927936 % a.q) place)

pub returns : goal.returns
returns c = powers_fewer (omega arith) c.loop-k.invariant
