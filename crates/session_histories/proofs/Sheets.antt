-- The test of a sheet's lists passes exactly if the propositions of specs/Sheets.antt hold. Assumes nothing.
use mathlib.Core.Path.{◌≡◌, refl, ap, ap₂}
use mathlib.Core.Logic.{◌↔◌}
use mathlib.Core.Bool.{true, false, not, ◌&&◌}
use mathlib.Core.List.{List, [], ◌∷◌}
use Prim.Native.Nat.{ℕ, zero, suc}
use native.Mathlib.Omega.{arith}
use borrow.Author.Tests.{eqb-true, eq-eqb, ltb-true, lt-ltb, not-false}
use lib.Dec.{eqb, ltb}
use lib.ListN.{length}
use Rattle.codec.specs.Lists.{every, all_below}
use Rattle.codec.proofs.Laws.{both}
use Rattle.sheet.specs.Form.{Sheet}
use Rattle.sheet.specs.Sheet.{fits, lists, unfit}
use Rattle.round.specs.Accepted.{EachBelow}
use Rattle.session_histories.specs.Sheets.{ListFits, ListsFit}

every_below : (q : ℕ) (xs : List ℕ) → (every (λ x. ltb x q) xs ≡ true) ↔ EachBelow q xs
every_below q xs = (says xs, holds xs)
  where
    says : (xs : List ℕ) → every (λ x. ltb x q) xs ≡ true → EachBelow q xs
    says [] e i l = absurd (omega arith)
    says (x ∷ xs) e zero l = ltb-true x q (both (ltb x q) (every (λ y. ltb y q) xs) e).0
    says (x ∷ xs) e (suc i) l = says xs (both (ltb x q) (every (λ y. ltb y q) xs) e).1 i (omega arith)

    holds : (xs : List ℕ) → EachBelow q xs → every (λ x. ltb x q) xs ≡ true
    holds [] h = refl
    holds (x ∷ xs) h = ap₂ ◌&&◌ (lt-ltb x q (h 0 (omega arith))) (holds xs (λ i l. h (suc i) (omega arith)))

list_exactly : (n q : ℕ) (xs : List ℕ) → (fits n q xs ≡ true) ↔ ListFits n q xs
unfolding all_below
list_exactly n q xs = (
  λ e. let h = both (eqb (length xs) n) (every (λ x. ltb x q) xs) e in record { count = eqb-true (length xs) n h.0; below = (every_below q xs).0 h.1 },
  λ c. ap₂ ◌&&◌ (eq-eqb (length xs) n c.count) ((every_below q xs).1 c.below),
)

pub lists_exactly : (s : Sheet) → (unfit s ≡ false) ↔ ListsFit s
unfolding unfit
lists_exactly s = (says, holds)
  where
    one : (xs : List ℕ) → (fits s.numbers.ring s.numbers.modulus xs ≡ true) ↔ ListFits s.numbers.ring s.numbers.modulus xs
    one = list_exactly s.numbers.ring s.numbers.modulus

    says : not (every (fits s.numbers.ring s.numbers.modulus) (lists s)) ≡ false → ListsFit s
    says e =
        let a = both (fits s.numbers.ring s.numbers.modulus s.a) _ (not-false _ e) in
        let b = both (fits s.numbers.ring s.numbers.modulus s.b) _ a.1 in
        let c = both (fits s.numbers.ring s.numbers.modulus s.k1) _ b.1 in
        let d = both (fits s.numbers.ring s.numbers.modulus s.k2) _ c.1 in
        let f = both (fits s.numbers.ring s.numbers.modulus s.k3) _ d.1 in
        record { a = (one s.a).0 a.0; b = (one s.b).0 b.0; k1 = (one s.k1).0 c.0; k2 = (one s.k2).0 d.0; k3 = (one s.k3).0 f.0 }

    holds : ListsFit s → not (every (fits s.numbers.ring s.numbers.modulus) (lists s)) ≡ false
    holds l = ap not (ap₂ ◌&&◌ ((one s.a).1 l.a) (ap₂ ◌&&◌ ((one s.b).1 l.b) (ap₂ ◌&&◌ ((one s.k1).1 l.k1) (ap₂ ◌&&◌ ((one s.k2).1 l.k2) (ap₂ ◌&&◌ ((one s.k3).1 l.k3) refl)))))
