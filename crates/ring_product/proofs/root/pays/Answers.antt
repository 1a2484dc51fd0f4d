-- `ring_product::root::pays` meets its contract. Assumes nothing.
use mathlib.Core.Path.{◌≡◌, sym, ◌∙◌}
use mathlib.Core.Logic.{◌⊎◌, inl, inr}
use Prim.Native.Nat.{ℕ, ◌^◌, ◌≤◌}
use native.Mathlib.Omega.{arith}
use borrow.Author.Tests.{eqb-true, ltb-true}
use Rattle.ring_product.proofs.root.pays.Goals.{then-q-gt1, else-q-gt1}
use Rattle.ring_product.proofs.root.pays.Goals as goal

sizes : (n : ℕ) → (n ≡ 256) ⊎ ((n ≡ 512) ⊎ ((n ≡ 1024) ⊎ (n ≡ 2048))) → (2 ≤ n) × (n ≤ 2048) × ((j : ℕ) × (n ≡ 2 ^ j))
sizes n (inl e) = (omega arith, omega arith, (8, e))
sizes n (inr (inl e)) = (omega arith, omega arith, (9, e))
sizes n (inr (inr (inl e))) = (omega arith, omega arith, (10, e))
sizes n (inr (inr (inr e))) = (omega arith, omega arith, (11, e))

pub returns-in-256 : goal.returns-in-256
returns-in-256 c = λ _. let n = sizes c.args.n c.in-256.is in elim c.if-q-gt1.branch [
  | then-q-gt1 w ↦ (w.if-q-gt1.true, eqb-true _ 1 (sym w.value-is ∙ c.if-q-eq1.true), n.0, n.1, n.2)
  | else-q-gt1 w ↦ absurd (omega (arith, w.if-q-gt1.false, ltb-true 1 c.args.q (sym w.value-is ∙ c.if-q-eq1.true)))
]
