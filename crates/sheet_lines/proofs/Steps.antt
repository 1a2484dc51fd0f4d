-- What one byte makes of a line's numbers, and the cases of a byte. Assumes nothing.
use mathlib.Core.Path.{◌≡◌, refl, ap}
use mathlib.Core.Logic.{◌⊎◌, inl, inr}
use mathlib.Core.Bool.{Bool, true, false, cond, ◌&&◌}
use mathlib.Core.List.{List, [], ◌∷◌, ◌++◌}
use Prim.Native.Nat.{ℕ, ◌+◌, ◌*◌, ◌-◌, ◌^◌, ◌≤◌, ◌<◌}
use native.Mathlib.Numerals.{add-one}
use native.Mathlib.Omega.{arith}
use borrow.Author.Tests.{le-ltb, lt-ltb, le-leb, lt-leb, eq-eqb, ne_eqb, ltb-false, eqb-true, eqb-false}
use lib.Dec.{ltb, eqb}
use lib.ListN.{length, drop, get_or}
use lib.Seq.{drop-cons}
use Rattle.std.specs.List.{list_all}
use Rattle.codec.specs.Bytes.{Bytes}
use Rattle.codec.specs.Lists.{every}
use Rattle.sheet_lines.specs.Reader.{digit, fresh, within, missing, found, step, values}

-- ---- a list from a place on

pub unroll : {A : Type 0} (d : A) (s : List A) (i : ℕ) → i < length s → drop i s ≡ get_or s i d ∷ drop (i + 1) s
unroll d s i h = rw (add-one, drop-cons s i d)

-- std's test of each element
pub every_is : (f : ℕ → Bool) (xs : List ℕ) → list_all f xs ≡ every f xs
every_is f [] = refl
every_is f (x ∷ xs) = ap (λ (b : Bool). f x && b) (every_is f xs)

-- ---- the cases

pub same_or : (a b : ℕ) → (a ≡ b) ⊎ (a ≡ b → ⊥)
same_or a b = go (eqb a b) refl
  where
    go : (t : Bool) → eqb a b ≡ t → (a ≡ b) ⊎ (a ≡ b → ⊥)
    go true e = inl (eqb-true a b e)
    go false e = inr (eqb-false a b e)

pub never_found : {A : Type 0} {xs r : List ℕ} → missing ≡ found xs r → A
never_found e = let z : ◌≡◌ {A = ℕ} 0 1 = cc in absurd (omega arith)

-- ---- digits

pub digit_is : (c : ℕ) → digit c < 10 → c ≡ 48 + digit c
unfolding digit
digit_is c h = go (ltb c 48) (ltb 57 c) refl h
  where
    go : (p q : Bool) → ltb c 48 ≡ p → cond p 10 (cond q 10 (c - 48)) < 10 → c ≡ 48 + cond p 10 (cond q 10 (c - 48))
    go true q e h = absurd (omega arith)
    go false true e h = absurd (omega arith)
    go false false e h = omega (arith, ltb-false c 48 e)

pub digit_of : (d : ℕ) → d < 10 → digit (48 + d) ≡ d
unfolding digit
digit_of d h = rw (le-ltb (48 + d) 48 (omega arith), le-ltb 57 (48 + d) (omega arith)) (omega arith)

-- ---- a byte in the numbers of a line

module _ (xs : List ℕ) (c : ℕ) (t : Bytes) where
  pub begins : digit c < 10 → values xs fresh (c ∷ t) ≡ values xs (within (digit c)) t
  unfolding values step
  begins d = rw (lt-ltb (digit c) 10 d)

  pub no_number : 10 ≤ digit c → values xs fresh (c ∷ t) ≡ missing
  unfolding values step
  no_number d = rw (le-ltb (digit c) 10 d)

  module _ (v : ℕ) where
    pub grows : digit c < 10 → (v ≡ 0 → ⊥) → v < 10 ^ 16 → values xs (within v) (c ∷ t) ≡ values xs (within (10 * v + digit c)) t
    unfolding values step
    grows d z s = rw (lt-ltb (digit c) 10 d, ne_eqb v 0 z, lt-leb (10 ^ 16) v s)

    pub leading_zero : digit c < 10 → v ≡ 0 → values xs (within v) (c ∷ t) ≡ missing
    unfolding values step
    leading_zero d z = rw (lt-ltb (digit c) 10 d, eq-eqb v 0 z)

    pub too_long : digit c < 10 → (v ≡ 0 → ⊥) → 10 ^ 16 ≤ v → values xs (within v) (c ∷ t) ≡ missing
    unfolding values step
    too_long d z s = rw (lt-ltb (digit c) 10 d, ne_eqb v 0 z, le-leb (10 ^ 16) v s)

    pub comma : 10 ≤ digit c → c ≡ 44 → values xs (within v) (c ∷ t) ≡ values (xs ++ v ∷ []) fresh t
    unfolding values step
    comma d e = rw (le-ltb (digit c) 10 d, eq-eqb c 44 e)

    pub ends : 10 ≤ digit c → c ≡ 10 → values xs (within v) (c ∷ t) ≡ found (xs ++ v ∷ []) t
    unfolding values step
    ends d e = rw (le-ltb (digit c) 10 d, ne_eqb c 44 (λ f. omega arith), eq-eqb c 10 e)

    pub neither : 10 ≤ digit c → (c ≡ 10 → ⊥) → (c ≡ 44 → ⊥) → values xs (within v) (c ∷ t) ≡ missing
    unfolding values step
    neither d e f = rw (le-ltb (digit c) 10 d, ne_eqb c 44 f, ne_eqb c 10 e)
