-- `check_round` meets its contract. Assumes nothing.
use mathlib.Core.Path.{◌≡◌, sym, ap, ◌∙◌}
use mathlib.Core.Bool.{true, not}
use native.Mathlib.Omega.{arith}
use Rattle.scratch.proofs.Order.{passes}
use Rattle.round.specs.Round.{Round, ranged, round_tests}
use Rattle.round.specs.Internal.{round_of}
use Rattle.commitment.specs.Parameters.{parameters}
use Rattle.round_side.proofs.Passed.{round_passed}
use Rattle.round_check.proofs.check_round.Goals.{Start}
use Rattle.round_check.proofs.check_round.Goals as goal

abbrev x : Start → Round
x s = let a = s.args in round_of a.side a.challenges.now a.ballots.now a.claims.now a.head.now a.shares0.now a.shares1.now a.opening.now a.answers.now

pub round_ranged-requires : goal.round_ranged-requires
round_ranged-requires c =
    let p = c.requires in
    let l = p.3 in
    (p.0.numbers.in_range.ring_high, p.2, p.0.numbers.in_range.repeats_high, l.challenges, l.answers, l.ballots, omega (arith, l.head), l.opening)

pub check_ranged-requires : goal.check_ranged-requires
check_ranged-requires c =
    let a = c.args in
    let p = c.requires in
    let r = x (goal.at.check_ranged-requires c).Start in
    let P = parameters a.k a.public.now in
    let h : ranged P a.count r ≡ true = cc (c.round_ranged.ensures a.public.now) in
    (p.0, p.1, p.2, round_passed P a.count p.0.a r p.3 h)

pub returns : goal.returns
unfolding round_tests
returns c =
    let a = c.args in
    let v = c.check_ranged in
    let r = round_of a.side a.challenges.now a.ballots.now a.claims.now a.head.now a.shares0.now a.shares1.now a.opening.now a.answers.now in
    let h : ranged (parameters a.k a.public.now) a.count r ≡ true = cc (c.round_ranged.ensures a.public.now) in
    record {
      replied = v.ensures.replied ∙ sym (passes 5 0 _ _ (ap not h));
      cleared = v.ensures.cleared;
    }
