-- A loop by numbers that works out where the bytes of each begin: before the first, and after one that passes. Assumes nothing.
use mathlib.Core.Path.{◌≡◌, refl}
use mathlib.Core.Bool.{Bool, true}
use Prim.Native.Nat.{ℕ, ◌+◌, ◌*◌, ◌<◌}
use native.Mathlib.Omega.{arith}
use borrow.Author.Count.{below_none, below_more}
use Rattle.round.proofs.Walk.{Walked}

module _ {f : ℕ → Bool} {step count : ℕ} where
  pub walked_none : Walked f step count 0 (step * 0)
  walked_none = record { within = omega arith; place = refl; held = below_none _ }

  pub walked_next : {j : ℕ} → Walked f step count j (step * j) → j < count → f j ≡ true → Walked f step count (j + 1) (step * (j + 1))
  walked_next w h t = record { within = omega arith; place = refl; held = below_more _ _ w.held t }
