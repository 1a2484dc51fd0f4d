-- `modular::shift` meets its contract. Assumes nothing.
use Rattle.std.proofs.Common.{ℕ, ◌%◌, ap, mod-lt, arith, rules}
use Rattle.modular.proofs.Congruence.{mod_mul_left}
use Rattle.modular.proofs.shift.Goals as goal

pub returns : goal.returns
returns c = (simp mod_mul_left (ap (λ (n : ℕ). n % c.args.q) (omega arith)), mod-lt _ (search rules))
