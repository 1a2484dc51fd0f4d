-- `modular::multiplier` meets its contract. Assumes nothing.
use Rattle.std.proofs.Common.{sym, ◌∙◌, arith}
use Rattle.modular.proofs.Division.{multiplier_found, multiplier_below, multiplier_none}
use Rattle.modular.proofs.multiplier.Goals as goal

pub returns-then-q-k-eq0 : goal.returns-then-q-k-eq0
returns-then-q-k-eq0 c = let a = c.args in (sym (c.loop-k.invariant ∙ multiplier_found a.q a.p c.loop-k.k (omega arith) c.if-q-k-eq0.true), omega arith)

pub loop-k-preserved : goal.loop-k-preserved
loop-k-preserved c = let a = c.args in c.loop-k.invariant ∙ multiplier_below a.q a.p c.loop-k.k (omega arith) c.if-q-k-eq0.false

pub returns : goal.returns
returns c = let a = c.args in (sym (c.loop-k.invariant ∙ multiplier_none a.q a.p c.loop-k.k (omega arith)), omega arith)
