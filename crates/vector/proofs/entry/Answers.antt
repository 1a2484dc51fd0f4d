-- `vector::entry` meets its contract. Assumes nothing.
use mathlib.Core.Path.{sym, ◌∙◌}
use native.Mathlib.Omega.{arith}
use Rattle.vector.proofs.Vectors.{get_d_entries}
use Rattle.vector.proofs.entry.Goals as goal

pub returns : goal.returns
returns c =
    let a = c.args in
    c.read32.ensures ∙ sym (get_d_entries a.p.now a.i (omega arith))
