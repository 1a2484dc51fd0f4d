-- `bounds::power` meets its contract. Assumes nothing.
use mathlib.Core.Path.{◌≡◌, ◌∙◌}
use Prim.Native.Nat.{◌*◌, ◌^◌, ◌%◌}
use native.Mathlib.Nat.{one-mul}
use native.Mathlib.Omega.{arith}
use lib.Pow.{shl_exact, pow_mono}
use Rattle.sheet_numbers.proofs.bounds.power.Goals as goal

pub returns : goal.returns
returns c =
    let d = c.args.d in
    let e : 1 * 2 ^ d % 2 ^ 64 ≡ 2 ^ d = shl_exact 1 d 64 (omega arith) (omega arith) ∙ one-mul (2 ^ d) in
    (e, rw e (pow_mono {j = 40} (omega arith)))
