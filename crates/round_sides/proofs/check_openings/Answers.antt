-- `round_sides::check_openings` meets its contract. Assumes nothing.
use mathlib.Core.Path.{sym, ap, ◌∙◌}
use mathlib.Core.Bool.{not}
use native.Mathlib.Omega.{arith}
use Rattle.scratch.proofs.Order.{refuses, passes}
use Rattle.round.specs.Extractor.{Openings, openings_of, extract_tests}
use Rattle.commitment.specs.Parameters.{parameters}
use Rattle.round_sides.proofs.Passed.{openings_passed}
use Rattle.round_sides.proofs.check_openings.Goals.{Start}
use Rattle.round_sides.proofs.check_openings.Goals as goal

abbrev x : Start → Openings
x s = let a = s.args in openings_of a.head.now a.shares0.now a.shares1.now a.ballots.now a.claims.now a.opening0.now a.opening1.now a.repetition a.answer1.now a.answer2.now a.answer3.now

pub openings_ranged-requires : goal.openings_ranged-requires
openings_ranged-requires c =
    let p = c.requires in
    let l = p.3 in
    (p.0.numbers.in_range.ring_high, p.2, record { ballots = l.ballots; head = omega (arith, l.head); opening0 = l.opening0; opening1 = l.opening1; answer1 = l.answer1; answer2 = l.answer2; answer3 = l.answer3 })

pub returns-then-not-openings_ranged : goal.returns-then-not-openings_ranged
unfolding extract_tests
returns-then-not-openings_ranged c =
    let t = c.openings_ranged in
    record {
      replied = refuses 5 0 _ _ (ap not (sym (t.ensures c.args.public.now) ∙ c.if-not-openings_ranged.true));
      cleared = c.wipe.ensures;
    }

pub test_ranged-requires : goal.test_ranged-requires
test_ranged-requires c =
    let a = c.args in
    let p = c.requires in
    let t = c.openings_ranged in
    (p.0, p.1, p.2, openings_passed (parameters a.k a.public.now) a.count p.0.a (x (goal.at.test_ranged-requires c).Start) p.3 (sym (t.ensures a.public.now) ∙ c.if-not-openings_ranged.false))

pub returns : goal.returns
unfolding extract_tests
returns c =
    let t = c.openings_ranged in
    let v = c.test_ranged in
    record {
      replied = v.ensures.replied ∙ sym (passes 5 0 _ _ (ap not (sym (t.ensures c.args.public.now) ∙ c.if-not-openings_ranged.false)));
      cleared = v.ensures.cleared;
    }
