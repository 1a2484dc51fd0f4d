-- `bgv::bounded` meets its contract. Assumes nothing.
use mathlib.Core.Path.{◌≡◌, sym, ap, ◌∙◌}
use native.Mathlib.Omega.{arith}
use mir.Syntax.{w64}
use mir.ValLaws.{to_z-of_z}
use Prim.Native.Nat.{suc}
use borrow.Author.Count.{below_more}
use lib.IntN.{nat_abs}
use Rattle.ring.specs.Slots.{poly}
use Rattle.ring.proofs.Ranges.{below_complete, not_below}
use Rattle.bgv.specs.Scheme.{lent_mask, within}
use Rattle.bgv.proofs.bounded.Goals as goal
use Rattle.bgv.proofs.bounded.Goals.{After-magnitude}

magnitude_is : (c : After-magnitude) → c.magnitude.result ≡ nat_abs (lent_mask c.args.mask.now c.loop-i.i)
unfolding poly
magnitude_is c = c.magnitude.ensures ∙ ap nat_abs (to_z-of_z w64 c.read_signed.result (record { sfits = c.read_signed.type_inv }) ∙ c.read_signed.ensures)

pub returns-then-bound-magnitude : goal.returns-then-bound-magnitude
unfolding within
returns-then-bound-magnitude c =
    let a = c.args in
    sym (not_below (suc a.bound) a.n (λ k. nat_abs (lent_mask a.mask.now k)) c.loop-i.i (omega arith) (omega (arith, magnitude_is (goal.at.returns-then-bound-magnitude c).After-magnitude)))

pub loop-i-preserved : goal.loop-i-preserved
loop-i-preserved c = below_more _ _ c.loop-i.invariant (omega (arith, magnitude_is (goal.at.loop-i-preserved c).After-magnitude))

pub returns : goal.returns
unfolding within
returns c =
    let a = c.args in
    sym (below_complete (suc a.bound) a.n (λ k. nat_abs (lent_mask a.mask.now k)) (record { at = λ k l. c.loop-i.invariant k (omega arith) }))
