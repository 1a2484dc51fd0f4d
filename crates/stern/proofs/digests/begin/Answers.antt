-- `digests::begin` meets its contract. Assumes nothing.
use mathlib.Core.List.{[], ◌∷◌}
use Rattle.hasher.proofs.Laws.{taken}
use Rattle.stern.proofs.digests.begin.Goals as goal

pub returns : goal.returns
returns c =
    let a = c.args in
    taken (a.lead ∷ []) a.salt.now (taken [] (a.lead ∷ []) c.new.ensures c.absorbed.ensures) c.absorbed-2.ensures
