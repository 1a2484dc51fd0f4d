-- `modular::divide` meets its contract. Assumes nothing.
use Rattle.modular.proofs.Division.{quotient_less, divided}
use Rattle.modular.proofs.divide.Goals as goal

pub returns : goal.returns
returns c =
    let a = c.args in
    let p = c.requires in
    rw p.5 (divided a.q a.p p.1 p.4 a.x p.0, quotient_less a.q a.p p.1 p.4 a.x p.0)
