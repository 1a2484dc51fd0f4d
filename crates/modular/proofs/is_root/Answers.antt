-- `modular::is_root` meets its contract. Assumes nothing.
use Rattle.std.proofs.Common.{ℕ, ◌-◌, eqb, refl, ap, arith, le-ltb, lt-ltb}
use Rattle.modular.specs.Roots.{is_root}
use Rattle.modular.proofs.is_root.Goals as goal

pub returns-then-q-w : goal.returns-then-q-w
unfolding is_root
returns-then-q-w c = let a = c.args in rw (le-ltb a.w a.q c.if-q-w.true) refl

pub returns : goal.returns
unfolding is_root
returns c = let a = c.args in rw (lt-ltb a.w a.q (omega arith)) (ap (λ (x : ℕ). eqb x (a.q - 1)) c.power.ensures.0)
