-- `register::count_standing` meets its contract. Assumes nothing.
use mathlib.Core.Path.{◌≡◌, sym, ap, ◌∙◌}
use Prim.Native.Nat.{ℕ, ◌+◌}
use native.Mathlib.Numerals.{add-one}
use native.Mathlib.Omega.{arith}
use borrow.Author.Tests.{eqb-true, eqb-false}
use Rattle.register.proofs.Entries.{standing_none, standing_counted, standing_passed}
use Rattle.register.proofs.count_standing.Goals as goal
use Rattle.register.proofs.count_standing.Goals.{then-is_standing, else-is_standing}

pub loop-i-init : goal.loop-i-init
loop-i-init c = (sym (standing_none c.args.reg.now), omega arith)

pub loop-i-preserved : goal.loop-i-preserved
loop-i-preserved c =
    let a = c.args in
    let l = c.loop-i in
    let r = a.reg.now in
    let i = l.i in
    elim c.if-is_standing.branch [
      | then-is_standing w ↦ (w.count-is ∙ rw (add-one i) (ap (λ (k : ℕ). k + 1) l.invariant.0 ∙ sym (standing_counted r i (eqb-true _ _ (sym c.is_standing.ensures ∙ w.if-is_standing.true)))), omega arith)
      | else-is_standing w ↦ (w.count-is ∙ rw (add-one i) (l.invariant.0 ∙ sym (standing_passed r i (eqb-false _ _ (sym c.is_standing.ensures ∙ w.if-is_standing.false)))), omega arith)
    ]

pub returns : goal.returns
returns c =
    let a = c.args in
    let l = c.loop-i in
    let e : l.i ≡ a.n = omega arith in
    (rw e at l.invariant.0, omega arith)
