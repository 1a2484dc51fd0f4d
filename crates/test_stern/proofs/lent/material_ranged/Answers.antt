-- `lent::material_ranged` meets its contract. Assumes nothing.
use mathlib.Core.Path.{refl}
use mathlib.Core.List.{[]}
use native.Mathlib.Omega.{arith}
use Rattle.vector.specs.Vector.{vector}
use Rattle.test_stern.proofs.Order.{stops, goes, end, used_taken, used_refused}
use Rattle.test_stern.proofs.lent.material_ranged.Goals as goal

pub returns-then-not-is_ternary : goal.returns-then-not-is_ternary
unfolding vector
returns-then-not-is_ternary c = record { replied = stops 5 _ _ c.is_ternary.ensures refl c.if-not-is_ternary.true; used = refl; kept = refl }

pub returns-then-not-in_range : goal.returns-then-not-in_range
unfolding vector
returns-then-not-in_range c =
    record { replied = goes 5 _ _ c.is_ternary.ensures c.if-not-is_ternary.false (stops 5 _ _ c.in_range.ensures refl c.if-not-in_range.true); used = refl; kept = refl }

pub returns-then-not-is_permutation : goal.returns-then-not-is_permutation
unfolding vector
returns-then-not-is_permutation c =
    record { replied = goes 5 _ _ c.is_ternary.ensures c.if-not-is_ternary.false (goes 5 _ _ c.in_range.ensures c.if-not-in_range.false (stops 9 _ _ c.is_permutation.ensures.0 refl c.if-not-is_permutation.true)); used = used_refused _ _ _ c.is_permutation.auto.work 9 0 (λ h. omega arith) (λ h. omega arith) refl; kept = c.is_permutation.auto.work }

pub returns : goal.returns
unfolding vector
returns c =
    record { replied = goes 5 _ _ c.is_ternary.ensures c.if-not-is_ternary.false (goes 5 _ _ c.in_range.ensures c.if-not-in_range.false (goes 9 _ [] c.is_permutation.ensures.0 c.if-not-is_permutation.false end)); used = used_taken _ _ _ c.is_permutation.auto.work refl; kept = c.is_permutation.auto.work }
