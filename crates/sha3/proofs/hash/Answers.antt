-- `sha3::hash` meets its contract. Assumes nothing.
use mathlib.Core.Path.{◌∙◌}
use mathlib.Core.List.{[]}
use native.Mathlib.Omega.{arith}
use Rattle.sha3.proofs.Parts.{start, more, done}
use Rattle.sha3.proofs.hash.Goals as goal

pub returns : goal.returns
returns c =
    let m = c.args.m.now in
    let s = c.start in
    let t = c.absorb in
    c.finish.ensures ∙ done t.result _ m (more s.result 0 [] m t.result _ (start s.result s.ensures) t.ensures (omega arith))
