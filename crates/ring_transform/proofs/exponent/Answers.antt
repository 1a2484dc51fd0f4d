-- `ring_transform::exponent` meets its contract. Assumes nothing.
use mathlib.Core.Path.{sym, ap, ◌∙◌}
use Prim.Native.Nat.{ℕ, ◌^◌}
use native.Mathlib.Omega.{arith}
use Rattle.ring_transform.proofs.Tables.{two_power, power_bound, power_low, lowest_of_power}
use Rattle.ring_transform.proofs.exponent.Goals as goal

pub returns : goal.returns
returns c =
    let j = c.requires.2.0 in
    let e = c.requires.2.1 ∙ ap (λ (k : ℕ). 2 ^ k) (sym (lowest_of_power j c.requires.2.1 (omega arith))) in
    (e ∙ sym (two_power _), power_low _ e (omega arith), power_bound _ e (omega arith))
