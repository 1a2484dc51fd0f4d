-- `repeats::least_repeats` meets its contract. Assumes nothing.
use mathlib.Core.Path.{◌≡◌, ap, ◌∙◌}
use Prim.Native.Nat.{◌+◌, ◌-◌}
use native.Mathlib.Omega.{arith}
use Rattle.sheet_numbers.specs.Bounds.{least}
use Rattle.sheet_numbers.proofs.Least.{table, entry}
use Rattle.sheet_numbers.proofs.repeats.least_repeats.Goals as goal

pub returns : goal.returns
unfolding table
returns c =
    let r = c.args.rounds in
    let e : r - 1 + 1 ≡ r = omega arith in
    entry (r - 1) (omega arith) ∙ ap least e
