-- `modular::from_digits` meets its contract. Assumes nothing.
use Rattle.std.proofs.Common.{ℕ, ◌%◌, ap, arith}
use native.Mathlib.Nat.{mod-add-mod, add-mod-mod}
use Rattle.modular.proofs.Congruence.{mod_mul_left}
use Rattle.modular.proofs.from_digits.Goals as goal

pub returns : goal.returns
returns c =
    simp (c.shift-3.ensures.0, c.shift-2.ensures.0, c.shift.ensures.0, mod_mul_left, mod-add-mod, add-mod-mod)
    (ap (λ (n : ℕ). n % c.args.q) (omega arith))
