-- `test_secret` meets its contract. Assumes nothing.
use mathlib.Core.Path.{◌≡◌, refl, sym, ap, ◌∙◌}
use mathlib.Core.Bool.{Bool, true, not, ◌&&◌}
use Rattle.scratch.proofs.Order.{fails, goes_on}
use Rattle.stern.proofs.Answered.{first_fails, second_fails, both_hold}
use Rattle.round_material.proofs.test_secret.Goals as goal

-- what was asked is in range, and the test of the material decides
judged : (asked material : Bool) {r t : Bool} → r ≡ material → asked ≡ true → r ≡ t → not (asked && material) ≡ not t
judged asked material e h f = ap not (sym (goes_on asked material refl h e) ∙ f)

pub returns-then-not-asked : goal.returns-then-not-asked
returns-then-not-asked c = let a = c.args in (first_fails 5 14 0 _ _ (ap not (sym (fails a.asked _ refl c.if-not-asked.true))), refl)

pub returns-then-not-in_range : goal.returns-then-not-in_range
returns-then-not-in_range c =
    let r = c.in_range in
    (first_fails 5 14 0 _ _ (judged c.args.asked _ r.ensures c.if-not-asked.false c.if-not-in_range.true), refl)

pub returns-then-not-matches : goal.returns-then-not-matches
returns-then-not-matches c =
    let r = c.in_range in
    let m = c.matches in
    (second_fails 5 14 0 _ _ (judged c.args.asked _ r.ensures c.if-not-asked.false c.if-not-in_range.false) (ap not (sym m.ensures.0 ∙ c.if-not-matches.true)), m.ensures.1)

pub returns : goal.returns
returns c =
    let r = c.in_range in
    let m = c.matches in
    (both_hold 5 14 0 _ _ (judged c.args.asked _ r.ensures c.if-not-asked.false c.if-not-in_range.false) (ap not (sym m.ensures.0 ∙ c.if-not-matches.false)), m.ensures.1)
