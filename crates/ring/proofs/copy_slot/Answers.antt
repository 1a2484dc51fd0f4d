-- `ring::copy_slot` meets its contract. Assumes nothing.
use Rattle.std.proofs.Common.{◌∙◌, arith}
use Rattle.ring.proofs.Filling.{filled_none, filled_more, filled_whole, read_other}
use Rattle.ring.proofs.copy_slot.Goals as goal

pub loop-i-init : goal.loop-i-init
loop-i-init c = filled_none _ _ _

pub loop-i-preserved : goal.loop-i-preserved
loop-i-preserved c =
    let a = c.args in
    let l = c.loop-i in
    let is = c.read64-x.ensures ∙ read_other _ a.to _ l.i l.work l.invariant (omega arith) a.n a.from (omega arith) c.requires in
    filled_more _ _ _ _ _ _ _ l.invariant (omega arith) is c.write64.ensures

pub returns : goal.returns
returns c = filled_whole _ _ _ c.loop-i.invariant (omega arith)
