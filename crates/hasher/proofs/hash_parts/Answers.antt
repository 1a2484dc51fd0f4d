-- `hasher::hash_parts` meets its contract. Assumes nothing.
use Rattle.hasher.proofs.Laws.{four_parts}
use Rattle.hasher.proofs.hash_parts.Goals as goal

pub returns : goal.returns
returns c =
    let a = c.args in
    let e = four_parts a.a.now a.b.now a.c.now a.d.now in
    cc
