-- The invariants of `power_by`. Assumes nothing.
use Rattle.std.proofs.Common.{ℕ, ◌*◌, ◌^◌, ◌<◌}
use Rattle.modular.specs.Modulo.{Same}
use Rattle.modular.specs.Internal.{ScaledProducts}
use Rattle.modular.proofs.power_by.Given as goal

abbrev pub invariant-loop-left : goal.invariant-loop-left
invariant-loop-left g l =
    (q c : ℕ) → l.one < q → l.w < q → ScaledProducts (goal.F-pre g l.times) (goal.F-post g l.times) q c → (l.r < q) × (l.b < q) × Same q (l.r * (l.b * c) ^ l.left) (l.one * (l.w * c) ^ l.e)

abbrev pub decreases-loop-left : goal.decreases-loop-left
decreases-loop-left g l = l.left
