-- `repetitions::test_repetitions` meets its contract. Assumes nothing.
use mathlib.Core.Path.{refl, sym, ◌∙◌}
use native.Mathlib.Omega.{arith}
use Rattle.codec.proofs.Refusals.{handed_on}
use Rattle.commitment.specs.Commitment.{keys_of}
use Rattle.commitment.specs.Loaded.{key_bytes}
use Rattle.round.proofs.Wiped.{still, wiped}
use Rattle.round_tests.proofs.RepetitionLoop.{came_first, came_more, came_refused, came_all, answer_ends, answer_fits, answer_ranged}
use Rattle.round_tests.proofs.repetitions.test_repetitions.Goals as goal

pub loop-i-init : goal.loop-i-init
loop-i-init c = let a = c.args in came_first a.k.modulus a.k.ring (keys_of a.k.ring (key_bytes a.k a.public.now)) a.head.now a.challenges.now a.answers.now a.work.now c.requires.1

pub test_at-requires : goal.test_at-requires
test_at-requires c =
    let a = c.args in
    let p = c.requires in
    let l = c.loop-i in
    let s = c.answer_length-size.ensures in (
      p.0,
      l.invariant.long,
      omega (arith, p.2),
      omega (arith, p.2),
      s,
      omega (arith, s, answer_ends a.k.modulus a.k.ring (keys_of a.k.ring (key_bytes a.k a.public.now)) a.head.now a.challenges.now a.answers.now a.k.repeats l.i l.at l.work l.invariant (omega arith) p.4),
      p.3,
      answer_ranged a.k.modulus a.k.ring (keys_of a.k.ring (key_bytes a.k a.public.now)) a.head.now a.challenges.now a.answers.now a.k.repeats l.i l.at l.work l.invariant (omega arith) p.4 c.answer_length-size.result s,
    )

pub returns-in_err-test_at : goal.returns-in_err-test_at
returns-in_err-test_at c =
    let a = c.args in
    let l = c.loop-i in
    let t = c.in_err-test_at.ensures in
    rw (handed_on c.from_residual.result c.from_residual.ensures.1)
    (record {
      replied = came_refused a.k.modulus a.k.ring (keys_of a.k.ring (key_bytes a.k a.public.now)) a.head.now a.challenges.now a.answers.now a.k.repeats l.i l.at l.work l.invariant (omega arith) c.requires.4 _ _ c.answer_length-size.ensures t.replied _ _ refl;
      cleared = wiped (l.invariant.long ∙ sym c.requires.1) t.cleared;
    })

pub overflow_add-at : goal.overflow_add-at
overflow_add-at c =
    let a = c.args in
    let l = c.loop-i in
    omega (arith, c.answer_length-size.ensures, answer_ends a.k.modulus a.k.ring (keys_of a.k.ring (key_bytes a.k a.public.now)) a.head.now a.challenges.now a.answers.now a.k.repeats l.i l.at l.work l.invariant (omega arith) c.requires.4, answer_fits a.k.modulus a.k.ring (keys_of a.k.ring (key_bytes a.k a.public.now)) a.head.now a.challenges.now a.answers.now a.k.repeats l.i l.at l.work l.invariant (omega arith) c.requires.4 c.requires.0.a.ring_high c.requires.0.numbers.in_range.repeats_high)

pub loop-i-preserved : goal.loop-i-preserved
loop-i-preserved c =
    let a = c.args in
    let l = c.loop-i in
    let t = c.in_ok-test_at.ensures in
    came_more a.k.modulus a.k.ring (keys_of a.k.ring (key_bytes a.k a.public.now)) a.head.now a.challenges.now a.answers.now a.k.repeats l.i l.at l.work l.invariant (omega arith) c.requires.4 _ _ c.answer_length-size.ensures t.replied _ (still t.cleared) refl

pub returns : goal.returns
returns c =
    let a = c.args in
    let l = c.loop-i in
    record {
      replied = came_all a.k.modulus a.k.ring (keys_of a.k.ring (key_bytes a.k a.public.now)) a.head.now a.challenges.now a.answers.now l.invariant (omega arith);
      cleared = wiped (l.invariant.long ∙ sym c.requires.1) c.wipe.ensures;
    }
