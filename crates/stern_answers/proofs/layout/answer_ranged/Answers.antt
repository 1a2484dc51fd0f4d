-- `layout::answer_ranged` meets its contract. Assumes nothing.
use mathlib.Core.Path.{◌≡◌, refl, sym, ap, ◌∙◌}
use mathlib.Core.Bool.{Bool, true, false, cond, ◌&&◌}
use Prim.Native.Nat.{ℕ, ◌-◌, ◌*◌}
use native.Mathlib.Omega.{arith}
use borrow.Author.Tests.{ne_eqb}
use lib.Dec.{eqb}
use lib.ListN.{take, drop}
use Rattle.scratch.proofs.Order.{goes_on}
use Rattle.codec.specs.Lists.{all_below}
use Rattle.vector.specs.Vector.{vector}
use Rattle.stern.specs.Shortness.{answer1_of, answer2_of}
use Rattle.stern.proofs.Answered.{chosen1}
use Rattle.stern_answers.proofs.layout.answer_ranged.Goals as goal

-- answers 2 and 3 have their numbers at one place
either : (b : Bool) (x : Bool) → x ≡ cond b x x
either b x = go b
  where
    go : (b : Bool) → x ≡ cond b x x
    go true = refl
    go false = refl

pub returns-then-is_ternary : goal.returns-then-is_ternary
unfolding vector
returns-then-is_ternary c =
    let a = c.args in
    let s = a.answer.now in
    let e : 42 * a.n - 0 ≡ 42 * a.n = omega arith in
    let f : 378 * a.n - 42 * a.n ≡ 336 * a.n = omega arith in
    let w = all_below 3 (answer1_of a.n s).w in
    let t = all_below a.q (vector (answer1_of a.n s).t) in
    goes_on w t (c.is_ternary.ensures ∙ ap (λ (k : ℕ). all_below 3 (take k s)) e) c.if-is_ternary.true (c.in_range.ensures ∙ ap (λ (k : ℕ). all_below a.q (vector (take k (drop (42 * a.n) s)))) f) ∙ sym (chosen1 a.challenge (w && t) _ _ c.if-challenge-eq1.true)

pub returns-else-challenge-eq1 : goal.returns-else-challenge-eq1
unfolding vector
returns-else-challenge-eq1 c =
    let a = c.args in
    let s = a.answer.now in
    let f : 504 * a.n - 168 * a.n ≡ 336 * a.n = omega arith in
    let u = all_below a.q (vector (answer2_of a.n s).u) in
    c.in_range-else-challenge-eq1.ensures ∙ ap (λ (k : ℕ). all_below a.q (vector (take k (drop (168 * a.n) s)))) f ∙ either (eqb a.challenge 2) u ∙ ap (λ (b : Bool). cond b (all_below 3 (answer1_of a.n s).w && all_below a.q (vector (answer1_of a.n s).t)) (cond (eqb a.challenge 2) u u)) (sym (ne_eqb a.challenge 1 c.if-challenge-eq1.false))
