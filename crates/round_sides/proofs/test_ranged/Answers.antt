-- `round_sides::test_ranged` meets its contract. Assumes nothing.
use mathlib.Core.Path.{refl, sym, ap, ◌∙◌}
use mathlib.Core.Bool.{not}
use native.Mathlib.Omega.{arith}
use lib.ListN.{length}
use Rattle.codec.proofs.Refusals.{handed_on}
use Rattle.scratch.proofs.Order.{refuses, passes}
use Rattle.round.proofs.Many.{stopped, continued}
use Rattle.round.proofs.Wiped.{still, again}
use Rattle.round_sides.proofs.test_ranged.Goals as goal

pub splits-requires : goal.splits-requires
splits-requires c = let p = c.requires in (p.0, p.3.head, p.1)

pub returns-then-not-splits : goal.returns-then-not-splits
returns-then-not-splits c =
    let s = c.splits in
    record {
      replied = refuses 6 0 _ _ (ap not (sym s.ensures.0 ∙ c.if-not-splits.true));
      cleared = s.ensures.1;
    }

pub test_side-requires : goal.test_side-requires
test_side-requires c =
    let p = c.requires in
    let r = p.3 in
    (p.0, r.opening0, still c.splits.ensures.1 ∙ p.1, omega (arith, r.head.sized), omega arith, p.2, r.batch, r.shares0, r.shares1)

pub returns-in_err-test_side : goal.returns-in_err-test_side
returns-in_err-test_side c =
    let s = c.splits in
    let t = c.in_err-test_side.ensures in
    rw (handed_on c.from_residual.result c.from_residual.ensures.1)
    (record {
      replied = stopped _ _ t.replied _ _ refl ∙ sym (passes 6 0 _ _ (ap not (sym s.ensures.0 ∙ c.if-not-splits.false)));
      cleared = again (length c.args.work.now) s.ensures.1 t.cleared;
    })

pub test_side-requires-2 : goal.test_side-requires-2
test_side-requires-2 c =
    let p = c.requires in
    let r = p.3 in
    (p.0, r.opening1, still c.test_side.ensures.cleared ∙ still c.splits.ensures.1 ∙ p.1, omega (arith, r.head.sized), omega arith, p.2, r.batch, r.shares0, r.shares1)

pub returns-in_err-test_side-2 : goal.returns-in_err-test_side-2
returns-in_err-test_side-2 c =
    let s = c.splits in
    let t = c.in_ok-test_side.ensures in
    let u = c.in_err-test_side-2.ensures in
    let l = length c.args.work.now in
    rw (handed_on c.from_residual-in_err-test_side-2.result c.from_residual-in_err-test_side-2.ensures.1)
    (record {
      replied = continued _ _ t.replied refl (stopped _ _ u.replied _ _ refl) ∙ sym (passes 6 0 _ _ (ap not (sym s.ensures.0 ∙ c.if-not-splits.false)));
      cleared = again l (again l s.ensures.1 t.cleared) u.cleared;
    })

pub test_answers-requires : goal.test_answers-requires
test_answers-requires c =
    let p = c.requires in
    let r = p.3 in
    (p.0, still c.test_side-2.ensures.cleared ∙ still c.test_side.ensures.cleared ∙ still c.splits.ensures.1 ∙ p.1, r.repetition, r.head, r.answer1, r.answer2, r.answer3)

pub returns : goal.returns
returns c =
    let s = c.splits in
    let t = c.in_ok-test_side.ensures in
    let u = c.in_ok-test_side-2.ensures in
    let v = c.test_answers in
    let l = length c.args.work.now in
    record {
      replied = continued _ _ t.replied refl (continued _ _ u.replied refl v.ensures.replied) ∙ sym (passes 6 0 _ _ (ap not (sym s.ensures.0 ∙ c.if-not-splits.false)));
      cleared = again l (again l (again l s.ensures.1 t.cleared) u.cleared) v.ensures.cleared;
    }
