-- `round_side::answers_ranged` meets its contract. Assumes nothing.
use Prim.Native.Nat.{◌+◌, ◌-◌}
use native.Mathlib.Omega.{arith}
use Rattle.round.specs.Round.{answers_ranged}
use Rattle.round_side.proofs.Ranged.{heard_first, heard_more, heard_fails, heard_all, answer_ends, answer_fits, answer_long}
use Rattle.round_side.proofs.answers_ranged.Goals as goal

pub loop-challenge-init : goal.loop-challenge-init
loop-challenge-init c = let a = c.args in heard_first a.k.modulus a.k.ring a.challenges.now a.answers.now a.k.repeats

pub slice_bounds-challenge_ranged-end : goal.slice_bounds-challenge_ranged-end
slice_bounds-challenge_ranged-end c =
    let a = c.args in
    let l = c.loop-challenge in
    omega (arith, answer_ends a.k.modulus a.k.ring a.challenges.now a.answers.now a.k.repeats l.challenge-index l.at l.invariant (omega arith) c.requires.2 c.requires.3 c.answer_length.result c.answer_length.ensures)

pub overflow_add-end : goal.overflow_add-end
overflow_add-end c =
    let a = c.args in
    let l = c.loop-challenge in
    omega (arith, answer_fits a.k.modulus a.k.ring a.challenges.now a.answers.now a.k.repeats l.challenge-index l.at l.invariant (omega arith) c.requires.2 c.requires.3 c.answer_length.result c.answer_length.ensures c.requires.0 c.requires.1)

pub challenge_ranged-requires : goal.challenge_ranged-requires
challenge_ranged-requires c =
    let a = c.args in
    let l = c.loop-challenge in
    let r = c.answer_length.result in
    (c.requires.0, answer_long a.k.modulus a.k.ring a.challenges.now a.answers.now a.k.repeats l.challenge-index l.at l.invariant (omega arith) c.requires.2 c.requires.3 r c.answer_length.ensures (l.at + r - l.at) (omega arith))

pub returns-then-not-challenge_ranged : goal.returns-then-not-challenge_ranged
unfolding answers_ranged
returns-then-not-challenge_ranged c =
    let a = c.args in
    let l = c.loop-challenge in
    let r = c.answer_length.result in
    heard_fails a.k.modulus a.k.ring a.challenges.now a.answers.now a.k.repeats l.challenge-index l.at l.invariant (omega arith) c.requires.2 c.requires.3 r c.answer_length.ensures c.challenge_ranged.result (l.at + r - l.at) (omega arith) c.challenge_ranged.ensures c.if-not-challenge_ranged.true

pub loop-challenge-preserved : goal.loop-challenge-preserved
loop-challenge-preserved c =
    let a = c.args in
    let l = c.loop-challenge in
    let r = c.answer_length.result in
    heard_more a.k.modulus a.k.ring a.challenges.now a.answers.now a.k.repeats l.challenge-index l.at l.invariant (omega arith) c.requires.2 c.requires.3 r c.answer_length.ensures c.challenge_ranged.result (l.at + r - l.at) (omega arith) c.challenge_ranged.ensures c.requires.0 c.requires.1 c.if-not-challenge_ranged.false

pub returns : goal.returns
unfolding answers_ranged
returns c =
    let a = c.args in
    let l = c.loop-challenge in
    heard_all a.k.modulus a.k.ring a.challenges.now a.answers.now a.k.repeats l.challenge-index l.at l.invariant (omega arith)
