-- `modular::corrected` meets its contract. Assumes nothing.
use Rattle.std.proofs.Common.{arith}
use Rattle.modular.proofs.Correction.{masked}
use Rattle.modular.proofs.corrected.Goals as goal

pub overflow_sub-result : goal.overflow_sub-result
overflow_sub-result c = let a = c.args in (masked a.x a.q _ (omega arith) (omega arith) (omega arith) c.wrapping_neg-mask.ensures).0

pub returns : goal.returns
returns c =
    let a = c.args in
    let r = masked a.x a.q _ (omega arith) (omega arith) (omega arith) c.wrapping_neg-mask.ensures in
    (r.1, r.2)
