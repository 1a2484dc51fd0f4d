-- The invariants of `test_masks`. Assumes nothing.
use mathlib.Core.Bool.{Bool, ◌&&◌}
use Prim.Native.Nat.{ℕ, ◌*◌}
use Rattle.codec.specs.Bytes.{Bytes, part}
use Rattle.bgv.specs.Scheme.{lent_mask, within}
use Rattle.round.proofs.Walk.{Walked}
use Rattle.round_material.proofs.masks.test_masks.Given as goal

-- the masks of both sides from a place on
abbrev pub bounded : (bound n : ℕ) (masks0 masks1 : Bytes) (from long : ℕ) → Bool
bounded bound n masks0 masks1 from long = within bound n (lent_mask (part masks0 from long)) && within bound n (lent_mask (part masks1 from long))

abbrev pub invariant-loop-j : goal.invariant-loop-j
invariant-loop-j l = Walked (λ i. bounded l.bound l.n l.masks0 l.masks1 (8 * l.n * i) (8 * l.n)) (8 * l.n) l.count l.j (8 * l.n * l.j)
