-- `counting::times` meets its contract. Assumes nothing.
use native.Mathlib.Nat.{mul-le-mul}
use native.Mathlib.Omega.{arith}
use Rattle.session.proofs.counting.times.Goals as goal

pub overflow_mul-result : goal.overflow_mul-result
overflow_mul-result c = let p = c.requires in omega (arith, mul-le-mul {n₁ = c.args.bytes} {m₁ = c.args.ballots} {n₂ = 16384} {m₂ = 4096} p.0 p.1)
