-- The replies of an answer's tests: two tests in order, each of a fact that must hold; an answer's parts and length. Assumes nothing.
use mathlib.Core.Path.{◌≡◌, refl, ap, ap₂, ◌∙◌}
use mathlib.Core.Logic.{◌≢◌}
use mathlib.Core.Bool.{Bool, true, false, cond}
use mathlib.Core.List.{[], ◌∷◌}
use Prim.Native.Nat.{ℕ, ◌+◌, ◌*◌, ◌≤◌}
use borrow.Author.Tests.{ne_eqb}
use lib.Dec.{eqb}
use lib.ListN.{length, take, drop}
use Rattle.codec.specs.Bytes.{Bytes, part}
use Rattle.codec.proofs.Laws.{length_part}
use Rattle.codec.specs.Reply.{test, first, Taken, Refused}
use Rattle.codec.specs.Lists.{all_below}
use Rattle.vector.specs.Vector.{vector}
use Rattle.stern.specs.Shortness.{answer_length}

-- x and y are the tests, which hold where a fact fails
module _ (i j place : ℕ) (x y : Bool) where
  pub first_fails : x ≡ true → Refused i place ≡ first (test i place x ∷ test j place y ∷ [])
  unfolding first
  first_fails e = rw e refl

  pub second_fails : x ≡ false → y ≡ true → Refused j place ≡ first (test i place x ∷ test j place y ∷ [])
  unfolding first
  second_fails e f = rw (e, f) refl

  pub both_hold : x ≡ false → y ≡ false → Taken ≡ first (test i place x ∷ test j place y ∷ [])
  unfolding first
  both_hold e f = rw (e, f) refl

-- ---- a part, lent with a length that is a difference of places: its range test, and its length

pub lent_range : (q : ℕ) (s : Bytes) (at a b : ℕ) → a ≡ b → all_below q (vector (part s at b)) ≡ true → all_below q (vector (take a (drop at s))) ≡ true
lent_range q s at a b e h = ap (λ (x : ℕ). all_below q (vector (take x (drop at s)))) e ∙ h

pub lent_length : (s : Bytes) (at a b : ℕ) → a ≡ b → at + b ≤ length s → length (take a (drop at s)) ≡ b
lent_length s at a b e h = ap (λ (x : ℕ). length (take x (drop at s))) e ∙ length_part s at b h

-- ---- by the challenge

module _ {A : Type 0} (challenge : ℕ) (x y z : A) where
  pub chosen1 : challenge ≡ 1 → cond (eqb challenge 1) x (cond (eqb challenge 2) y z) ≡ x
  chosen1 e = ap (λ (c : ℕ). cond (eqb c 1) x (cond (eqb c 2) y z)) e

  pub chosen2 : challenge ≡ 2 → cond (eqb challenge 1) x (cond (eqb challenge 2) y z) ≡ y
  chosen2 e = ap (λ (c : ℕ). cond (eqb c 1) x (cond (eqb c 2) y z)) e

  pub chosen3 : challenge ≢ 1 → challenge ≢ 2 → cond (eqb challenge 1) x (cond (eqb challenge 2) y z) ≡ z
  chosen3 d e = ap₂ (λ (s t : Bool). cond s x (cond t y z)) (ne_eqb challenge 1 d) (ne_eqb challenge 2 e)

module _ (n challenge : ℕ) where
  pub answer_long : challenge ≡ 1 → answer_length n challenge ≡ 378 * n + 64
  answer_long e = ap (answer_length n) e

  pub answer_longer : challenge ≢ 1 → answer_length n challenge ≡ 504 * n + 64
  answer_longer d = ap (λ (s : Bool). cond s (378 * n + 64) (504 * n + 64)) (ne_eqb challenge 1 d)
