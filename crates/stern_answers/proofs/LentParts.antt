-- The parts of an answer as its tests are lent them, and two digests that were compared. Assumes nothing.
use mathlib.Core.Path.{◌≡◌, sym, ap, ap₂, ◌∙◌}
use mathlib.Core.Bool.{Bool, false, not, ◌&&◌}
use mathlib.Core.Logic.{◌≢◌}
use mathlib.Core.List.{List, [], ◌∷◌}
use Prim.Native.Nat.{ℕ, ◌+◌, ◌-◌, ◌*◌}
use native.Mathlib.Omega.{arith}
use lib.ListN.{length, take, drop}
use Rattle.codec.specs.Bytes.{Bytes, same}
use Rattle.codec.specs.Reply.{Test, test, first, Reply}
use Rattle.scratch.specs.Internal.{Judged}
use Rattle.commitment.specs.Commitment.{Keys}
use Rattle.stern.specs.Shortness.{answer1_of, answer2_of, answer3_of, tests1, tests2, tests3, answer_tests}
use Rattle.stern.proofs.Answered.{lent_length, chosen1, chosen2, chosen3}

-- where the test before it refuses nothing, the test of two digests decides, by what they are the digests of
pub digests_decide : (i place : ℕ) (x : Bool) (one other a b c d : Bytes) {r : Reply} → x ≡ false → r ≡ first (test 11 place (not (same one a && same other b)) ∷ []) → a ≡ c → b ≡ d
    → r ≡ first (test i place x ∷ test 11 place (not (same one c && same other d)) ∷ [])
unfolding first
digests_decide i place x one other a b c d e er ea eb = rw e (er ∙ ap₂ (λ (s t : Bytes). first (test 11 place (not (same one s && same other t)) ∷ [])) ea eb)

-- ---- the parts of an answer, lent with lengths that are differences of places

-- an answer is cut at x and at y, and two salts follow
pub cut_lengths : (s : Bytes) (x m y : ℕ) → y ≡ x + m → length s ≡ y + 64
    → (length (take (x - 0) (drop 0 s)) ≡ x) × (length (take (y - x) (drop x s)) ≡ m) × (length (take (y + 32 - y) (drop y s)) ≡ 32) × (length (take (y + 64 - (y + 32)) (drop (y + 32) s)) ≡ 32)
cut_lengths s x m y e l = (
  lent_length s 0 (x - 0) x (omega arith) (omega arith),
  lent_length s x (y - x) m (omega arith) (omega arith),
  lent_length s y (y + 32 - y) 32 (omega arith) (omega arith),
  lent_length s (y + 32) (y + 64 - (y + 32)) 32 (omega arith) (omega arith),
)

module _ (q n place : ℕ) (k : Keys) (c d answer : Bytes) where
  abbrev with1 : (a b e f : ℕ) → List Test
  with1 a b e f =
      tests1 q n k c d place (record { w = take a answer; t = take b (drop (42 * n) answer); salt2 = take e (drop (378 * n) answer); salt3 = take f (drop (378 * n + 32) answer) })

  pub lent1 : (a b e f : ℕ) → a ≡ 42 * n → b ≡ 336 * n → e ≡ 32 → f ≡ 32 → {r : Reply} → r ≡ first (with1 a b e f) → r ≡ first (tests1 q n k c d place (answer1_of n answer))
  lent1 a b e f ea eb ee ef er =
      er ∙ ap₂ (λ (x y : ℕ). first (with1 x y e f)) ea eb ∙ ap₂ (λ (x y : ℕ). first (with1 (42 * n) (336 * n) x y)) ee ef

-- answers 2 and 3 are cut alike
module _ (n : ℕ) (answer : Bytes) (tests : (p x salt1 salt : Bytes) → List Test) where
  abbrev cut : (a b e f : ℕ) → Reply
  cut a b e f = first (tests (take a answer) (take b (drop (168 * n) answer)) (take e (drop (504 * n) answer)) (take f (drop (504 * n + 32) answer)))

  pub cut_alike : (a b e f : ℕ) → a ≡ 168 * n → b ≡ 336 * n → e ≡ 32 → f ≡ 32 → {r : Reply} → r ≡ cut a b e f → r ≡ cut (168 * n) (336 * n) 32 32
  cut_alike a b e f ea eb ee ef er = er ∙ ap₂ (λ (x y : ℕ). cut x y e f) ea eb ∙ ap₂ (cut (168 * n) (336 * n)) ee ef

-- ---- the tests of the answer to a challenge

-- tests that are others by another name
pub retold : {ts us : List Test} {r : Reply} {w w' : Bytes} → us ≡ ts → Judged ts r w w' → Judged us r w w'
retold e j = record { replied = j.replied ∙ ap first (sym e); cleared = j.cleared }

module _ (q n place challenge : ℕ) (k : Keys) (c d answer : Bytes) where
  abbrev one : List Test
  one = tests1 q n k c d place (answer1_of n answer)

  abbrev two : List Test
  two = tests2 q n k c d place (answer2_of n answer)

  abbrev three : List Test
  three = tests3 q n k c d place (answer3_of n answer)

  abbrev chosen : List Test
  chosen = answer_tests q n k c d place challenge answer

  pub judged1 : challenge ≡ 1 → {r : Reply} {w w' : Bytes} → Judged one r w w' → Judged chosen r w w'
  judged1 e = retold (chosen1 challenge one two three e)

  pub judged2 : challenge ≡ 2 → {r : Reply} {w w' : Bytes} → Judged two r w w' → Judged chosen r w w'
  judged2 e = retold (chosen2 challenge one two three e)

  pub judged3 : challenge ≢ 1 → challenge ≢ 2 → {r : Reply} {w w' : Bytes} → Judged three r w w' → Judged chosen r w w'
  judged3 e f = retold (chosen3 challenge one two three e f)
