-- `Session::entered` meets its contract. Assumes nothing.
use mathlib.Core.Path.{refl}
use Rattle.session.specs.Steps.{entered_by}
use Rattle.session.proofs.Session.entered.Goals as goal

pub returns : goal.returns
unfolding entered_by
returns c = (rw c.with_entry.ensures refl, refl)
