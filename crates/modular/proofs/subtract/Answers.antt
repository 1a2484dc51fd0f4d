-- `modular::subtract` meets its contract. Assumes nothing.
use Rattle.std.proofs.Common.{◌∙◌, arith}
use Rattle.modular.proofs.Congruence.{same_refl, same_add, same_negative}
use Rattle.modular.proofs.subtract.Goals as goal

pub returns : goal.returns
returns c = let a = c.args in c.corrected.ensures.0 ∙ (same_add {q = a.q} (same_refl {x = a.a}) (same_negative a.b (omega arith) (omega arith))).is
