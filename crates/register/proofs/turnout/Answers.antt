-- `register::turnout` meets its contract. Assumes nothing.
use mathlib.Core.Path.{ap}
use Prim.Native.Nat.{ℕ, ◌+◌, ◌*◌, ◌≤◌}
use native.Mathlib.Nat.{div-lt_iff_lt-mul}
use native.Mathlib.Omega.{arith}
use Rattle.register.specs.Register as def
use Rattle.register.proofs.turnout.Goals as goal

-- at most 4,096 of at least one
bounded : (n enrolled : ℕ) → n ≤ 4096 → 1 ≤ enrolled → def.thousandths n enrolled ≤ 4096000
unfolding def.thousandths
bounded n enrolled h k =
    omega (arith, (div-lt_iff_lt-mul {k = 2 * enrolled} {x = 2000 * n + enrolled} {y = 4096001} (omega arith)).1 (omega arith))

pub overflow_cast-result : goal.overflow_cast-result
unfolding def.thousandths
overflow_cast-result c =
    let b = bounded c.count_standing-count.result c.args.enrolled (omega arith) (omega arith) in
    omega arith

pub returns : goal.returns
unfolding def.turnout def.thousandths
returns c =
    let a = c.args in
    let r = c.count_standing-count in
    ap (λ (n : ℕ). def.thousandths n a.enrolled) r.ensures.0
