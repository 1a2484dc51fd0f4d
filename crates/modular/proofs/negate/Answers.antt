-- `modular::negate` meets its contract. Assumes nothing.
use Rattle.std.proofs.Common.{◌∙◌, arith}
use Rattle.modular.proofs.Congruence.{same_negative}
use Rattle.modular.proofs.negate.Goals as goal

pub returns : goal.returns
returns c = let a = c.args in c.corrected.ensures.0 ∙ (same_negative {q = a.q} a.a (omega arith) (omega arith)).is
