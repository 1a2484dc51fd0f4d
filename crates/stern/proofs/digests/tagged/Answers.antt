-- `digests::tagged` meets its contract. Assumes nothing.
use mathlib.Core.Path.{ap, ◌∙◌}
use mathlib.Core.List.{◌∷◌, ◌++◌}
use Rattle.hasher.specs.Internal.{finished}
use Rattle.hasher.proofs.Laws.{taken, finished_holding}
use Rattle.stern.proofs.digests.tagged.Goals as goal

pub returns : goal.returns
returns c =
    let a = c.args in
    c.finish.ensures ∙ ap finished (taken (a.lead ∷ a.salt.now) a.m.now c.begin.ensures c.absorbed.ensures) ∙ finished_holding ((a.lead ∷ a.salt.now) ++ a.m.now)
