-- Equal numbers, as a test and as an equation. Assumes nothing.
use mathlib.Core.Path.{◌≡◌, ap, subst}
use mathlib.Core.Logic.{◌↔◌}
use mathlib.Core.Bool.{true}
use mathlib.Core.List.{List, [], ◌∷◌}
use Prim.Native.Nat.{ℕ}
use lib.ListN.{get_or}
use Rattle.codec.proofs.Laws.{same_refl, same_equal}
use Rattle.sheet_numbers.specs.declared.Numbers.{Numbers}
use Rattle.session_check.specs.Stored.{same_numbers}

abbrev listed : Numbers → List ℕ
listed k = k.ring ∷ k.modulus ∷ k.drown ∷ k.rounds ∷ k.repeats ∷ []

abbrev unlisted : List ℕ → Numbers
unlisted l = record { ring = get_or l 0 0; modulus = get_or l 1 0; drown = get_or l 2 0; rounds = get_or l 3 0; repeats = get_or l 4 0 }

pub same_numbers_lem : (a b : Numbers) → (same_numbers a b ≡ true) ↔ (a ≡ b)
unfolding same_numbers
same_numbers_lem a b = (λ e. ap unlisted (same_equal (listed a) (listed b) e), λ e. subst (λ (k : Numbers). same_numbers a k ≡ true) e (same_refl (listed a)))
