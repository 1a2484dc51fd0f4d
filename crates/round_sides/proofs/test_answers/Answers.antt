-- `round_sides::test_answers` meets its contract. Assumes nothing.
use mathlib.Core.Path.{refl, ◌∙◌}
use native.Mathlib.Omega.{arith}
use lib.ListN.{length}
use Rattle.codec.proofs.Refusals.{handed_on}
use Rattle.round.proofs.Many.{stopped, continued}
use Rattle.round.proofs.Wiped.{still, again}
use Rattle.round_sides.proofs.test_answers.Goals as goal

pub test_answer-requires : goal.test_answer-requires
test_answer-requires c = let p = c.requires in (p.0, p.1, p.3, omega (arith, p.3.sized), p.4)

pub returns-in_err-test_answer : goal.returns-in_err-test_answer
returns-in_err-test_answer c =
    let t = c.in_err-test_answer.ensures in
    rw (handed_on c.from_residual.result c.from_residual.ensures.1)
    (record { replied = stopped _ _ t.replied _ _ refl; cleared = t.cleared })

pub test_answer-requires-2 : goal.test_answer-requires-2
test_answer-requires-2 c = let p = c.requires in (p.0, still c.test_answer.ensures.cleared ∙ p.1, p.3, omega (arith, p.3.sized), p.5)

pub returns-in_err-test_answer-2 : goal.returns-in_err-test_answer-2
returns-in_err-test_answer-2 c =
    let t = c.in_ok-test_answer.ensures in
    let u = c.in_err-test_answer-2.ensures in
    rw (handed_on c.from_residual-in_err-test_answer-2.result c.from_residual-in_err-test_answer-2.ensures.1)
    (record { replied = continued _ _ t.replied refl (stopped _ _ u.replied _ _ refl); cleared = again (length c.args.work.now) t.cleared u.cleared })

pub test_answer-requires-3 : goal.test_answer-requires-3
test_answer-requires-3 c = let p = c.requires in (p.0, still c.test_answer-2.ensures.cleared ∙ still c.test_answer.ensures.cleared ∙ p.1, p.3, omega (arith, p.3.sized), p.6)

pub returns : goal.returns
returns c =
    let t = c.in_ok-test_answer.ensures in
    let u = c.in_ok-test_answer-2.ensures in
    let v = c.test_answer-3 in
    let l = length c.args.work.now in
    record {
      replied = continued _ _ t.replied refl (continued _ _ u.replied refl v.ensures.replied);
      cleared = again l (again l t.cleared u.cleared) v.ensures.cleared;
    }
