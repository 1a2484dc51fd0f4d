-- `noise::head_within` meets its contract. Assumes nothing.
use mathlib.Core.Path.{sym, ap, ◌∙◌}
use Prim.Native.Nat.{ℕ, suc}
use native.Mathlib.Omega.{arith}
use borrow.Author.Count.{below_more}
use lib.IntN.{nat_abs}
use Rattle.modular.specs.Modulo.{centre}
use Rattle.ring.specs.Slots.{poly}
use Rattle.ring.proofs.Ranges.{below_complete, not_below}
use Rattle.bgv.specs.Scheme.{centred, within}
use Rattle.round_material.proofs.noise.head_within.Goals as goal

pub size-requires : goal.size-requires
unfolding poly
size-requires c =
    let p = c.requires in
    (rw c.read64-x.ensures (p.1.at c.loop-i.i (omega arith)), p.2)

pub returns-then-bound-size : goal.returns-then-bound-size
unfolding within poly
returns-then-bound-size c =
    let a = c.args in
    sym (not_below (suc a.bound) a.n (λ k. nat_abs (centred a.q (poly a.work.now) k)) c.loop-i.i (omega arith) (omega (arith, c.size.ensures ∙ ap (λ (x : ℕ). nat_abs (centre a.q x)) c.read64-x.ensures)))

pub loop-i-preserved : goal.loop-i-preserved
unfolding poly
loop-i-preserved c =
    let a = c.args in
    below_more _ _ c.loop-i.invariant (omega (arith, c.size.ensures ∙ ap (λ (x : ℕ). nat_abs (centre a.q x)) c.read64-x.ensures))

pub returns : goal.returns
unfolding within
returns c =
    let a = c.args in
    sym (below_complete (suc a.bound) a.n (λ k. nat_abs (centred a.q (poly a.work.now) k)) (record { at = λ k l. c.loop-i.invariant k (omega arith) }))
