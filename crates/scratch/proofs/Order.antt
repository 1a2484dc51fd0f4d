-- The tests of lent slices: lengths that are wanted, and slices in range. Assumes nothing.
use mathlib.Core.Path.{◌≡◌, sym, ap, ◌∙◌}
use mathlib.Core.Bool.{Bool, true, false, not, ◌&&◌}
use mathlib.Core.List.{List, ◌∷◌}
use Prim.Native.Nat.{ℕ}
use borrow.Author.Tests.{not-false}
use lib.ListN.{get_or}
use Rattle.codec.specs.Bytes.{same}
use Rattle.codec.specs.Reply.{Test, test, first, Reply, Taken, Refused}
use Rattle.codec.proofs.Laws.{same_equal}
use Rattle.codec.proofs.Replies.{taken_exactly}
use Rattle.scratch.specs.Call.{length_test}

-- lengths that are as wanted, one by one
pub length_at : (xs ys : List ℕ) (i : ℕ) → same xs ys ≡ true → get_or xs i 0 ≡ get_or ys i 0
length_at xs ys i e = ap (λ (l : List ℕ). get_or l i 0) (same_equal xs ys e)

-- the same where code asks x
pub length_asked : {x : Bool} (xs ys : List ℕ) (i : ℕ) → x ≡ same xs ys → x ≡ true → get_or xs i 0 ≡ get_or ys i 0
length_asked {x} xs ys i e h = length_at xs ys i (sym e ∙ h)

-- where a call is taken whose first tests are of lengths and of ranges
pub passed : (xs ys : List ℕ) (b : Bool) (ts : List Test) → first (length_test xs ys ∷ test 5 0 (not b) ∷ ts) ≡ Taken → (same xs ys ≡ true) × (b ≡ true)
passed xs ys b ts e = let n = (taken_exactly (length_test xs ys ∷ test 5 0 (not b) ∷ ts)).0 e in (not-false (same xs ys) n.0, not-false b n.1.0)

-- code asks x, which is b: it refuses where x does not hold, and goes on to the tests after where it does
module _ (n : ℕ) {b x : Bool} (e : x ≡ b) {r : Reply} where
  pub stops : (ts : List Test) → x ≡ false → r ≡ Refused n 0 → r ≡ first (test n 0 (not b) ∷ ts)
  unfolding first
  stops ts h k = rw (sym e, h) k

  pub follows : (ts : List Test) → x ≡ true → r ≡ first ts → r ≡ first (test n 0 (not b) ∷ ts)
  unfolding first
  follows ts h k = rw (sym e, h) k

-- a test that holds, and one that does not
pub refuses : (n p : ℕ) (b : Bool) (ts : List Test) → b ≡ true → Refused n p ≡ first (test n p b ∷ ts)
unfolding first
refuses n p b ts e = rw e

pub passes : (n p : ℕ) (b : Bool) (ts : List Test) → b ≡ false → first (test n p b ∷ ts) ≡ first ts
unfolding first
passes n p b ts e = rw e

-- ---- one test after another

-- the first fails
pub fails : (a b : Bool) {x : Bool} → x ≡ a → x ≡ false → false ≡ (a && b)
fails a b e f = rw (sym e ∙ f)

-- it does not, and the second decides
pub goes_on : (a b : Bool) {x y : Bool} → x ≡ a → x ≡ true → y ≡ b → y ≡ (a && b)
goes_on a b e f g = rw (sym e ∙ f) g

pub last : (b : Bool) {y : Bool} → y ≡ b → y ≡ (b && true)
last true e = e
last false e = e
