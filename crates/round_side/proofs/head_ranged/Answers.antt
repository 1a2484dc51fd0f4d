-- `round_side::head_ranged` meets its contract. Assumes nothing.
use mathlib.Core.Path.{◌∙◌}
use Prim.Native.Nat.{◌-◌, ◌*◌}
use native.Mathlib.Omega.{arith}
use Rattle.round.specs.Round.{head_ranged}
use Rattle.round_side.proofs.Ranged.{front_range}
use Rattle.round_side.proofs.head_ranged.Goals as goal

pub returns : goal.returns
unfolding head_ranged
returns c = let a = c.args in c.in_range.ensures ∙ front_range a.k.modulus a.head.now (80 * a.k.ring - 0) (10 * a.k.ring) (omega arith) (omega (arith, c.requires.1))
