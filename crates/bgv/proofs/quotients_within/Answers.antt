-- `bgv::quotients_within` meets its contract. Assumes nothing.
use mathlib.Core.Path.{◌≡◌, sym, ap, ◌∙◌}
use native.Mathlib.Omega.{arith}
use borrow.Author.Count.{below_more}
use Prim.Native.Nat.{ℕ, suc}
use lib.IntN.{nat_abs}
use Rattle.modular.specs.Modulo.{centre}
use Rattle.modular.specs.Division.{divide}
use Rattle.ring.specs.Slots.{poly}
use Rattle.ring.proofs.Ranges.{below_complete, not_below}
use Rattle.bgv.specs.Scheme.{within}
use Rattle.bgv.proofs.quotients_within.Invariants.{quotients}
use Rattle.bgv.proofs.quotients_within.Goals as goal
use Rattle.bgv.proofs.quotients_within.Goals.{After-size-size}

pub divide-quotient-requires : goal.divide-quotient-requires
unfolding poly
divide-quotient-requires c =
    let p = c.requires in
    let m = c.multiplier-m.ensures in
    (omega (arith, c.read64-x.ensures, p.1.at c.loop-i.i (omega arith)), p.2, p.3, p.5, p.4, m.0, m.1)

size_is : (c : After-size-size) → c.size-size.result ≡ nat_abs (quotients c.args.q c.args.p c.args.work.now c.loop-i.i)
unfolding poly
size_is c =
    let a = c.args in
    c.size-size.ensures ∙ ap (λ (x : ℕ). nat_abs (centre a.q x)) (c.divide-quotient.ensures.0 ∙ ap (divide a.q a.p) c.read64-x.ensures)

pub returns-then-bound-size : goal.returns-then-bound-size
unfolding within
returns-then-bound-size c =
    let a = c.args in
    sym (not_below (suc a.bound) a.n (λ k. nat_abs (quotients a.q a.p a.work.now k)) c.loop-i.i (omega arith) (omega (arith, size_is (goal.at.returns-then-bound-size c).After-size-size)))

pub loop-i-preserved : goal.loop-i-preserved
loop-i-preserved c = below_more _ _ c.loop-i.invariant (omega (arith, size_is (goal.at.loop-i-preserved c).After-size-size))

pub returns : goal.returns
unfolding within
returns c =
    let a = c.args in
    sym (below_complete (suc a.bound) a.n (λ k. nat_abs (quotients a.q a.p a.work.now k)) (record { at = λ k l. c.loop-i.invariant k (omega arith) }))
