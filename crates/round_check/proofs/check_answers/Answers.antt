-- `check_answers` meets its contract. Assumes nothing.
use mathlib.Core.Path.{refl, ◌∙◌}
use lib.ListN.{length}
use Rattle.round.proofs.Many.{stopped, continued}
use Rattle.round.proofs.Wiped.{still, again}
use Rattle.round_check.proofs.check_answers.Goals as goal

pub test_repetitions-requires : goal.test_repetitions-requires
test_repetitions-requires c =
    let p = c.requires in
    let r = p.3 in
    (p.0, p.1, r.head.sized, r.head.pairs, r.answers)

pub returns-in-Err : goal.returns-in-Err
returns-in-Err c =
    let t = c.in-Err.ensures in
    record { replied = stopped _ _ t.replied _ _ refl; cleared = t.cleared }

pub test_votes-requires : goal.test_votes-requires
test_votes-requires c =
    let p = c.requires in
    let r = p.3 in
    (p.0.numbers, r.opening, still c.test_repetitions.ensures.cleared ∙ p.1, p.2, r.side, r.batch, r.shares0, r.shares1)

pub returns-in-Ok : goal.returns-in-Ok
returns-in-Ok c =
    let t = c.test_repetitions in
    let v = c.test_votes in
    record {
      replied = continued _ _ c.in-Ok.ensures.replied refl v.ensures.replied;
      cleared = again (length c.args.work.now) t.ensures.cleared v.ensures.cleared;
    }
