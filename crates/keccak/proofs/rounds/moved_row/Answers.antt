-- `rounds::moved_row` meets its contract. Assumes nothing.
use mathlib.Core.Path.{◌≡◌, refl, ◌∙◌}
use mathlib.Core.List.{[], ◌∷◌}
use Prim.Native.Nat.{ℕ, zero, suc, ◌+◌, ◌*◌, ◌%◌, ◌<◌}
use native.Mathlib.Omega.{arith}
use lib.Bits.{bit_xor}
use lib.ListN.{get_or}
use Rattle.keccak.specs.Steps.{Row, StateArray, lane, offsets, xor_row, rho_row, rho, pi}
use Rattle.keccak.specs.Internal.{affected}
use Rattle.keccak.proofs.rounds.moved_row.Goals as goal

-- lane x after theta and pi, from column k
abbrev from : StateArray → Row → ℕ → ℕ → ℕ
from s d x k = bit_xor (lane s k x) (get_or d k 0)

-- the code's table is pi of the definition's; both sides are computed for each row
moved : (s : StateArray) (d : Row) (y : ℕ) → y < 5
    → rho_row (from s d 0 (3 * y % 5) ∷ from s d 1 ((1 + 3 * y) % 5) ∷ from s d 2 ((2 + 3 * y) % 5) ∷ from s d 3 ((3 + 3 * y) % 5) ∷ from s d 4 ((4 + 3 * y) % 5) ∷ [])
    (get_or (pi offsets) y []) ≡ get_or (pi (rho (affected s d))) y []
unfolding rho rho_row xor_row affected
moved s d zero h = refl
moved s d (suc zero) h = refl
moved s d (suc (suc zero)) h = refl
moved s d (suc (suc (suc zero))) h = refl
moved s d (suc (suc (suc (suc zero)))) h = refl
moved s d (suc (suc (suc (suc (suc y))))) h = absurd (omega arith)

pub returns : goal.returns
returns g c = c.rho_row.ensures ∙ moved c.args.s c.args.d g.row.Y c.requires
