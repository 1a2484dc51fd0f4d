-- The orders of an admission and a withdrawal, refusal by refusal, and what a call leaves by its order. Assumes nothing.
use mathlib.Core.Path.{◌≡◌, sym, ap, ◌∙◌}
use mathlib.Core.Logic.{◌≢◌}
use mathlib.Core.Bool.{true, false}
use mathlib.Core.List.{List}
use Prim.Native.Nat.{ℕ, ◌≤◌, ◌<◌}
use lib.Dec.{eqb}
use borrow.Author.Tests.{eq-eqb, ne_eqb, lt-ltb, le-ltb}
use Rattle.codec.specs.Bytes.{Bytes}
use Rattle.codec.specs.Reply.{Test, first, leaves, Taken, Refused}
use Rattle.register.specs.Register.{capacity, state_at, find}
use Rattle.register.specs.Orders.{admission_tests, withdrawal_tests}
use Rattle.register.specs.Internal.{Wrote}

-- the first entry with a mark that was read stands at i
module _ (reg : Bytes) (used mark : ℕ) {i m : ℕ} (at : i ≡ find reg m used) (read : m ≡ mark) where
  f : i ≡ find reg mark used
  f = at ∙ ap (λ (n : ℕ). find reg n used) read

  -- ---- admission

  pub is_standing : i < used → eqb (state_at reg i) 1 ≡ true → first (admission_tests reg used mark) ≡ Refused 32 0
  unfolding first
  is_standing h g = rw (← f, lt-ltb i used h, g)

  pub is_withdrawn : i < used → eqb (state_at reg i) 1 ≡ false → first (admission_tests reg used mark) ≡ Refused 33 0
  unfolding first
  is_withdrawn h g = rw (← f, lt-ltb i used h, g)

  pub is_full : used ≤ i → used ≡ capacity → first (admission_tests reg used mark) ≡ Refused 35 0
  unfolding first
  is_full h g = rw (← f, le-ltb i used h, eq-eqb used capacity g)

  pub is_free : used ≤ i → used ≢ capacity → first (admission_tests reg used mark) ≡ Taken
  unfolding first
  is_free h g = rw (← f, le-ltb i used h, ne_eqb used capacity g)

  -- ---- withdrawal

  pub is_withdrawn_already : i < used → eqb (state_at reg i) 1 ≡ false → first (withdrawal_tests reg used mark) ≡ Refused 33 0
  unfolding first
  is_withdrawn_already h g = rw (← f, lt-ltb i used h, g)

  pub is_standing_still : i < used → eqb (state_at reg i) 1 ≡ true → first (withdrawal_tests reg used mark) ≡ Taken
  unfolding first
  is_standing_still h g = rw (← f, lt-ltb i used h, g)

  pub is_unknown_full : used ≤ i → used ≡ capacity → first (withdrawal_tests reg used mark) ≡ Refused 35 0
  unfolding first
  is_unknown_full h g = rw (← f, le-ltb i used h, eq-eqb used capacity g)

  pub is_unknown_free : used ≤ i → used ≢ capacity → first (withdrawal_tests reg used mark) ≡ Taken
  unfolding first
  is_unknown_free h g = rw (← f, le-ltb i used h, ne_eqb used capacity g)

-- ---- a call that leaves lent bytes only

module _ (ts : List Test) (written kept : Bytes) where
  pub silent : {n : ℕ} → first ts ≡ Refused n 0 → Wrote ts written (Refused n 0) kept kept
  unfolding leaves
  silent e = record { replied = sym e; written = rw e }

  pub writes : {x : Bytes} → first ts ≡ Taken → x ≡ written → Wrote ts written Taken kept x
  unfolding leaves
  writes e h = record { replied = sym e; written = rw e h }
