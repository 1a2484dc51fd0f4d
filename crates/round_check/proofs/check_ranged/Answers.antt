-- `check_ranged` meets its contract. Assumes nothing.
use mathlib.Core.Path.{refl, sym, ap, ◌∙◌}
use mathlib.Core.Bool.{not}
use native.Mathlib.Omega.{arith}
use lib.ListN.{length}
use Rattle.scratch.proofs.Order.{refuses, passes}
use Rattle.round.proofs.Many.{stopped, continued}
use Rattle.round.proofs.Wiped.{still, again}
use Rattle.round_check.proofs.check_ranged.Goals as goal

pub splits-requires : goal.splits-requires
splits-requires c = let p = c.requires in (p.0, p.3.head, p.1)

pub returns-then-not-splits : goal.returns-then-not-splits
returns-then-not-splits c =
    let s = c.splits in
    record {
      replied = refuses 6 0 _ _ (ap not (sym s.ensures.0 ∙ c.if-not-splits.true));
      cleared = s.ensures.1;
    }

pub test_opening-requires : goal.test_opening-requires
test_opening-requires c =
    let p = c.requires in
    let r = p.3 in
    (p.0, r.opening, still c.splits.ensures.1 ∙ p.1, omega (arith, r.head.sized), r.side)

pub returns-in-Err : goal.returns-in-Err
returns-in-Err c =
    let s = c.splits in
    let t = c.in-Err.ensures in
    record {
      replied = stopped _ _ t.replied _ _ refl ∙ sym (passes 6 0 _ _ (ap not (sym s.ensures.0 ∙ c.if-not-splits.false)));
      cleared = again (length c.args.work.now) s.ensures.1 t.cleared;
    }

pub check_answers-requires : goal.check_answers-requires
check_answers-requires c = let p = c.requires in (p.0, still c.test_opening.ensures.cleared ∙ still c.splits.ensures.1 ∙ p.1, p.2, p.3)

pub returns-in-Ok : goal.returns-in-Ok
returns-in-Ok c =
    let s = c.splits in
    let t = c.test_opening in
    let v = c.check_answers in
    let l = length c.args.work.now in
    record {
      replied = continued _ _ c.in-Ok.ensures.replied refl v.ensures.replied ∙ sym (passes 6 0 _ _ (ap not (sym s.ensures.0 ∙ c.if-not-splits.false)));
      cleared = again l (again l s.ensures.1 t.ensures.cleared) v.ensures.cleared;
    }
