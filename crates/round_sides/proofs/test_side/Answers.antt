-- `round_sides::test_side` meets its contract. Assumes nothing.
use mathlib.Core.Path.{refl, ◌∙◌}
use lib.ListN.{length}
use Rattle.codec.proofs.Refusals.{handed_on}
use Rattle.round.proofs.Many.{stopped, continued}
use Rattle.round.proofs.Wiped.{still, again}
use Rattle.round_sides.proofs.test_side.Goals as goal

pub returns-in_err-test_opening : goal.returns-in_err-test_opening
returns-in_err-test_opening c =
    let o = c.in_err-test_opening.ensures in
    rw (handed_on c.from_residual.result c.from_residual.ensures.1)
    (record { replied = stopped _ _ o.replied _ _ refl; cleared = o.cleared })

pub test_votes-requires : goal.test_votes-requires
test_votes-requires c = let p = c.requires in (p.0.numbers, p.1, still c.test_opening.ensures.cleared ∙ p.2, p.5, p.4, p.6, p.7, p.8)

pub returns : goal.returns
returns c =
    let o = c.test_opening in
    let v = c.test_votes in
    record {
      replied = continued _ _ c.in_ok-test_opening.ensures.replied refl v.ensures.replied;
      cleared = again (length c.args.work.now) o.ensures.cleared v.ensures.cleared;
    }
