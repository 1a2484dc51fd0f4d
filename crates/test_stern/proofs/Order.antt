-- The order of a call's tests, one fact that must hold after another, and what the call leaves in scratch. Assumes nothing.
use mathlib.Core.Path.{◌≡◌, refl, sym, ap, ◌∙◌}
use mathlib.Core.Bool.{Bool, true, false, cond, not}
use mathlib.Core.Logic.{◌≢◌}
use mathlib.Core.List.{List, [], ◌∷◌}
use Prim.Native.Nat.{ℕ}
use native.Mathlib.Omega.{arith}
use lib.Dec.{eqb}
use lib.ListN.{length}
use Rattle.codec.specs.Bytes.{Bytes, zeros}
use Rattle.std.proofs.Common.{Result}
use Rattle.codec.specs.Reply.{Test, test, first, leaves, packed, Reply, Taken, Refused}
use Rattle.codec.specs.Refusal.{as_reply}
use Rattle.codec.specs.declared.Refusal.{Refusal}
use Rattle.scratch.specs.Call.{zeroized}
use Rattle.scratch.proofs.Zeroizing.{zeroized_taken, zeroized_refused}
use Rattle.commitment.specs.Commitment.{Keys}
use Rattle.stern.specs.Shortness.{answer1_of, answer2_of, answer3_of, tests1, tests2, tests3, answer_tests}
use Rattle.test_stern.specs.Calls.{Sifted, CallAnswered, CallTold}

module _ (n : ℕ) {r : Reply} (b : Bool) (ts : List Test) {x : Bool} (is : x ≡ b) where
  -- a fact fails
  pub stops : r ≡ Refused n 0 → x ≡ false → r ≡ first (test n 0 (not b) ∷ ts)
  unfolding first
  stops e f = rw (sym is ∙ f) e

  -- it holds, and the rest decides
  pub goes : x ≡ true → r ≡ first ts → r ≡ first (test n 0 (not b) ∷ ts)
  unfolding first
  goes f e = rw (sym is ∙ f) e

-- no test is left
pub end : Taken ≡ first []
unfolding first
end = refl

-- scratch that was used, and is zeroed by what it answers
module _ (r : Reply) (w w' : Bytes) (sized : length w' ≡ length w) where
  pub used_taken : r ≡ Taken → zeroized r w' ≡ zeroized r w
  used_taken e = zeroized_taken r w' e ∙ ap zeros sized ∙ sym (zeroized_taken r w e)

  pub used_refused : (n p : ℕ) → n ≢ 1 → n ≢ 31 → r ≡ Refused n p → zeroized r w' ≡ zeroized r w
  used_refused n p f g e = zeroized_refused r n p w' e f g ∙ ap zeros sized ∙ sym (zeroized_refused r n p w e f g)

  used_two : (i place : ℕ) (x y : Bool) → i ≢ 1 → i ≢ 31 → r ≡ first (test i place x ∷ test 11 place y ∷ []) → zeroized r w' ≡ zeroized r w
  unfolding first
  used_two i place true y f g e = used_refused i place f g e
  used_two i place false true f g e = used_refused 11 place (λ h. omega arith) (λ h. omega arith) e
  used_two i place false false f g e = used_taken e

  -- the tests of an answer refuse 9, 10 or 11
  pub used_answer : (q n : ℕ) (k : Keys) (c d : Bytes) (place challenge : ℕ) (answer : Bytes) → r ≡ first (answer_tests q n k c d place challenge answer) → zeroized r w' ≡ zeroized r w
  used_answer q n k c d place challenge answer e = go (eqb challenge 1) (eqb challenge 2) e
    where
      go : (b b' : Bool) → r ≡ first (cond b (tests1 q n k c d place (answer1_of n answer)) (cond b' (tests2 q n k c d place (answer2_of n answer)) (tests3 q n k c d place (answer3_of n answer)))) → zeroized r w' ≡ zeroized r w
      go true b' e = used_two 10 place _ _ (λ h. omega arith) (λ h. omega arith) e
      go false true e = used_two 9 place _ _ (λ h. omega arith) (λ h. omega arith) e
      go false false e = used_two 9 place _ _ (λ h. omega arith) (λ h. omega arith) e

-- ---- a call, from its part before the zeroize

packs : {is : Reply} {r r' : Result Unit Refusal} {answer : ℕ} → answer ≡ packed (as_reply r') → r' ≡ r → as_reply r ≡ is → answer ≡ packed is
packs e f i = e ∙ ap packed (ap as_reply f ∙ i)

module _ {is : Reply} {r r' : Result Unit Refusal} {answer : ℕ} (e : answer ≡ packed (as_reply r')) {w w'' : Bytes} (w' : Bytes) (z : (r' ≡ r) × (w'' ≡ zeroized (as_reply r) w')) where
  pub answered : {writes out out' : Bytes} → as_reply r ≡ is → out' ≡ leaves (as_reply r) writes out → zeroized (as_reply r) w' ≡ zeroized (as_reply r) w → CallAnswered is writes answer out out' w w''
  answered {writes} {out} i written used =
      record { replied = packs e z.0 i; written = written ∙ ap (λ (x : Reply). leaves x writes out) i; cleared = z.1 ∙ used ∙ ap (λ (x : Reply). zeroized x w) i }

  pub told : Sifted is (as_reply r) w w' → CallTold is answer w w''
  told m = record { replied = packs e z.0 m.replied; cleared = z.1 ∙ m.used ∙ ap (λ (x : Reply). zeroized x w) m.replied }
