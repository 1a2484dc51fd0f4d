-- A loop that tests `count` things one after the other, `step` bytes each, and stops at the first that fails. Assumes nothing.
use mathlib.Core.Path.{◌≡◌, refl, sym, ap, ◌∙◌}
use mathlib.Core.Bool.{Bool, true, false, not}
use mathlib.Core.List.{List, [], ◌∷◌}
use Prim.Native.Nat.{ℕ, ◌+◌, ◌*◌, ◌≤◌, ◌<◌}
use native.Mathlib.Nat.{mul-zero, mul-add, mul-one}
use native.Mathlib.Omega.{arith}
use borrow.Author.Count.{below_none, below_more}
use Rattle.codec.specs.Reply.{Test, test, first, Taken, Refused}
use Rattle.codec.specs.Lists.{all}
use Rattle.codec.proofs.Lists.{all_sound, all_complete}
use Rattle.scratch.proofs.Order.{refuses}
use Rattle.round.specs.Layout.{joined}
use Rattle.round.proofs.Many.{each_none, each_refused, each_taken, stretch}

-- number i must pass f; the loop stands before number j, whose bytes begin at a place
pub record Walked (f : ℕ → Bool) (step count j at : ℕ) : Type 0 where
  pub within : j ≤ count
  pub place : at ≡ step * j
  pub held : (i : ℕ) → i < j → f i ≡ true

module _ {f : ℕ → Bool} {step count : ℕ} where
  pub walked_first : Walked f step count 0 0
  walked_first = record { within = omega arith; place = sym (mul-zero step); held = below_none _ }

  module _ {j at : ℕ} (w : Walked f step count j at) where
    pub walked_more : (to : ℕ) → to ≡ at + step → j < count → f j ≡ true → Walked f step count (j + 1) to
    walked_more to e h t = record {
      within = omega arith;
      place = omega (arith, w.place, mul-add step j 1, mul-one step);
      held = below_more _ _ w.held t;
    }

    -- its bytes end within those of all
    pub walked_ends : j < count → at + step ≤ step * count
    walked_ends h = omega (arith, w.place, stretch step j count h)

    -- it fails, or there is none left: as one test of all
    pub walked_fails : j < count → f j ≡ false → false ≡ all count f
    walked_fails h e = go (all count f) refl
      where
        go : (b : Bool) → all count f ≡ b → false ≡ b
        go true t = sym e ∙ all_sound count f t j h
        go false t = refl

    pub walked_holds : count ≤ j → true ≡ all count f
    walked_holds h = sym (all_complete count f (λ i l. w.held i (omega arith)))

    -- and as the list of the tests
    module _ (number : ℕ) where
      abbrev tests : ℕ → List Test
      tests i = test number i (not (f i)) ∷ []

      pub walked_refused : j < count → f j ≡ false → Refused number j ≡ first (joined count tests)
      walked_refused h e =
          sym (each_refused count tests j number j h (each_none j tests (λ i l. (ap not (w.held i l), tt))) (sym (refuses number j (not (f j)) [] (ap not e))))

      pub walked_taken : count ≤ j → Taken ≡ first (joined count tests)
      walked_taken h = sym (each_taken count tests (each_none count tests (λ i l. (ap not (w.held i (omega arith)), tt))))
