-- `modular::multiply` meets its contract. Assumes nothing.
use Rattle.std.proofs.Common.{ℕ, ◌%◌, ap, ◌∙◌, arith}
use Rattle.modular.proofs.Digits.{by_digits}
use Rattle.modular.proofs.multiply.Goals as goal

pub returns : goal.returns
returns c = let a = c.args in c.from_digits.ensures ∙ ap (λ (n : ℕ). n % a.q) (omega (arith, by_digits 268435456 a.a a.b))
