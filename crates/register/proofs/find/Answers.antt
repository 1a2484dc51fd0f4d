-- `register::find` meets its contract. Assumes nothing.
use mathlib.Core.Path.{◌≡◌, sym, ◌∙◌}
use native.Mathlib.Numerals.{add-one}
use native.Mathlib.Omega.{arith}
use Rattle.register.specs.Register as def
use Rattle.register.proofs.Entries.{find_nothing, find_none, find_first}
use Rattle.register.proofs.find.Goals as goal

pub loop-i-init : goal.loop-i-init
loop-i-init c = find_nothing c.args.reg.now c.args.mark

pub returns-then-read32-mark : goal.returns-then-read32-mark
unfolding def.mark_at
returns-then-read32-mark c =
    let a = c.args in
    let l = c.loop-i in
    (sym (find_first a.reg.now a.mark l.i a.n l.invariant (sym c.read32.ensures ∙ c.if-read32-mark.true) (omega arith)), omega arith)

pub loop-i-preserved : goal.loop-i-preserved
unfolding def.mark_at
loop-i-preserved c =
    let a = c.args in
    let l = c.loop-i in
    rw (add-one l.i) (find_none a.reg.now a.mark l.i l.invariant (λ e. c.if-read32-mark.false (c.read32.ensures ∙ e)))

pub returns : goal.returns
returns c =
    let l = c.loop-i in
    let e : l.i ≡ c.args.n = omega arith in
    (sym (rw e at l.invariant), omega arith)
